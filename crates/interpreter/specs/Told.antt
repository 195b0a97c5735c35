-- What is told beside the place of a fault: the word before it, where that begins, and the loads that led there.
use Rattle.std.specs.Prelude.{◌≡◌, ℕ, zero, suc, ◌-◌, ◌==◌, nat_lt, if◌then◌else◌, List, [], ◌∷◌, length, take, drop, min, slice_index_or, Bool, true, false, Option, Some, None}
use Rattle.std.proofs.Common.{refl}
use Rattle.sector_disk.specs.declared.device.SectorDevice.{Ghosts}
use Rattle.journal.specs.Store.{is_text_of}
use Rattle.journal.specs.Store.{kept_of}
use Rattle.block_buffers.specs.Buffers.{slot_of}
use Rattle.block_words.specs.declared.buffered_blocks.Blocks.{Blocks}
use Rattle.block_words.specs.declared.buffered_blocks.TextPlace.{TextPlace}
use Rattle.block_words.specs.Parts.{buffers_of, store_of}
use Rattle.block_words.specs.Uses.{at_hand, text_at}
use Rattle.interpreter.specs.declared.place.LeftAt.{LeftAt}
use Rattle.interpreter.specs.declared.place.LeftAt.TheVariants as left
use Rattle.interpreter.specs.declared.place.Place.{Place}
use Rattle.interpreter.specs.State.{Forth}
use Rattle.interpreter.specs.Taken.{line_of}

-- where the last word of a text's first bytes, so many, ends: behind the last of them that is no blank
unfoldable pub word_end : ℕ → List ℕ → ℕ
word_end zero text = 0
word_end (suc k) text = if slice_index_or text k 0 == 32 then word_end k text else suc k

-- where a word begins that ends there: behind the last blank before
unfoldable pub word_start : ℕ → List ℕ → ℕ
word_start zero text = 0
word_start (suc k) text = if slice_index_or text k 0 == 32 then suc k else word_start k text

-- the last word of a text before a byte: where it ends, where it begins, and its bytes
abbrev pub end_before : ℕ → List ℕ → ℕ
end_before at text = word_end (min at (length text)) text

abbrev pub start_before : ℕ → List ℕ → ℕ
start_before at text = word_start (end_before at text) text

abbrev pub word_before : ℕ → List ℕ → List ℕ
word_before at text = take (end_before at text - start_before at text) (drop (start_before at text) text)

-- its first byte, or where there is none the last byte before
abbrev pub first_byte : ℕ → List ℕ → ℕ
first_byte at text = if nat_lt (start_before at text) (end_before at text) then start_before at text else at - 1

-- ---- where a line was left

-- the place of its fault, if it was left there
abbrev pub place_of : Option LeftAt → Option Place
place_of None = None
place_of (Some left.Abort) = None
place_of (Some (left.Fault place)) = Some place

-- whether ABORT or a true ABORT" left it
abbrev pub has_aborted : Option LeftAt → Bool
has_aborted None = false
has_aborted (Some left.Abort) = true
has_aborted (Some (left.Fault place)) = false

-- ---- in a text in which a place lies

abbrev pub word_told : Option LeftAt → List ℕ → List ℕ
word_told None text = []
word_told (Some left.Abort) text = []
word_told (Some (left.Fault place)) text = word_before place.to_in text

abbrev pub start_told : Option LeftAt → List ℕ → Option Place
start_told None text = None
start_told (Some left.Abort) text = None
start_told (Some (left.Fault place)) text = Some (record { block = place.block; to_in = first_byte place.to_in text })

-- the loads that led to a place: those under way, where there is one
abbrev pub loads_told : Option LeftAt → List Place → List Place
loads_told None loads = []
loads_told (Some left.Abort) loads = []
loads_told (Some (left.Fault place)) loads = loads

-- Of a load that was asked for at this place that start is told: in the same block, where the last word before it begins in some text.
abbrev pub IsStart : (place start : Place) → Type 0
IsStart place start = (text : List ℕ) × (start ≡ record { block = place.block; to_in = first_byte place.to_in text })

-- Of each load its start is told, of no other, and in the same order.
abbrev pub AreStarts : (places starts : List Place) → Type 0
AreStarts [] starts = starts ≡ []
AreStarts (place ∷ places) [] = ⊥
AreStarts (place ∷ places) (start ∷ starts) = IsStart place start × AreStarts places starts

pub starts_told : (place : Option LeftAt) (places starts : List Place) → AreStarts places starts → AreStarts (loads_told place places) (loads_told place starts)
starts_told None places starts h = refl
starts_told (Some left.Abort) places starts h = refl
starts_told (Some (left.Fault place)) places starts h = h

module _ {D : Type 0} {G : Ghosts D} where
  abbrev pub text_found : Option TextPlace → Blocks D G → (space : List ℕ) → List ℕ
  text_found None blocks space = []
  text_found (Some at) blocks space = text_at at (store_of blocks) space

  -- the text of a block where it is at hand, and else none
  abbrev pub text_of_block : ℕ → Blocks D G → (space : List ℕ) → List ℕ
  text_of_block block blocks space = text_found (at_hand (slot_of (buffers_of blocks) block) (is_text_of (kept_of (store_of blocks)) block)) blocks space

  -- the text in which a place lies: the line, or a block's
  abbrev pub text_around : Place → Blocks D G → (space : List ℕ) → List ℕ
  text_around place blocks space = if place.block == 0 then line_of space else text_of_block place.block blocks space

  abbrev pub text_told : Option LeftAt → Blocks D G → (space : List ℕ) → List ℕ
  text_told None blocks space = []
  text_told (Some left.Abort) blocks space = []
  text_told (Some (left.Fault place)) blocks space = text_around place blocks space

-- ---- what a line's end promises of them

-- The word is one that may be told beside the place: none without a place; in the line, as it stands in the text input
-- buffer, its last word before the place.
abbrev pub IsWordBefore : Option LeftAt → Forth → List ℕ → Type 0
IsWordBefore None state word = word ≡ []
IsWordBefore (Some left.Abort) state word = word ≡ []
IsWordBefore (Some (left.Fault place)) state word = place.block ≡ 0 → word ≡ word_before place.to_in (line_of state.core.space)

-- The start is one that may be told: none without a place; in the line the first byte of that word, or where there is none the
-- last byte before the place.
abbrev pub IsStartBefore : Option LeftAt → Forth → Option Place → Type 0
IsStartBefore None state start = start ≡ None
IsStartBefore (Some left.Abort) state start = start ≡ None
IsStartBefore (Some (left.Fault place)) state start = place.block ≡ 0
    → start ≡ Some (record { block = 0; to_in = first_byte place.to_in (line_of state.core.space) })

-- Word and start are read off one text, whichever that is: its last word before the place, in the same block.
abbrev pub AreRead : Option LeftAt → (start : Option Place) → (word : List ℕ) → Type 0
AreRead None start word = (start ≡ None) × (word ≡ [])
AreRead (Some left.Abort) start word = (start ≡ None) × (word ≡ [])
AreRead (Some (left.Fault place)) start word =
    (text : List ℕ) × (start ≡ Some (record { block = place.block; to_in = first_byte place.to_in text })) × (word ≡ word_before place.to_in text)

pub are_read : (place : Option LeftAt) (text : List ℕ) → AreRead place (start_told place text) (word_told place text)
are_read None text = (refl, refl)
are_read (Some left.Abort) text = (refl, refl)
are_read (Some (left.Fault place)) text = (text, refl, refl)
