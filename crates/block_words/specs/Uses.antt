-- What a use of a block does to the buffers, and how many blocks a save has to write. All this is known over any device.
use Rattle.std.specs.Prelude.{◌≡◌, ℕ, ◌==◌, ◌&&◌, ◌||◌, ◌<◌, Bool, true, false, List, [], ◌∷◌, Option, Some, None, unwrap_or, replicate, Result, Ok, Err}
use Rattle.sector_disk.specs.declared.device.SectorDevice.{Ghosts}
use Rattle.journal.specs.declared.store.Store.{Store}
use Rattle.journal.specs.Layout.{count_below}
use Rattle.journal.specs.Store.{blocks_of, is_pending, text_of}
use Rattle.data_space.specs.Space.{buffer_at, buffer_bytes, with_bytes}
use Rattle.block_buffers.specs.declared.buffers.Assigned.{Assigned}
use Rattle.block_buffers.specs.Buffers.{Buffers, assigned, slot_of, touched, oldest, slot_for, placed, updated_ones}
use Rattle.block_words.specs.declared.buffered_blocks.BlockFault.{BlockFault}
use Rattle.block_words.specs.declared.buffered_blocks.TextPlace.{TextPlace}
use Rattle.block_words.specs.declared.buffered_blocks.TextPlace.TheVariants.{InBuffer, InStore}

abbrev pub used_if : Option Assigned → Buffers → ℕ → Buffers
used_if (Some x) buffers u = touched buffers x
used_if None buffers u = placed buffers u

-- block u is used: its buffer comes to the front, or it gets one there
abbrev pub used : Buffers → ℕ → Buffers
used buffers u = used_if (assigned buffers.list u) buffers u

-- the slot that it then has
abbrev pub slot_used : Buffers → ℕ → ℕ
slot_used buffers u = unwrap_or (slot_of buffers u) (slot_for buffers)

abbrev pub replaced_if : Option ℕ → Buffers → Option Assigned
replaced_if (Some slot) buffers = None
replaced_if None buffers = oldest buffers

-- the buffer whose place that of block u takes
abbrev pub replaced : Buffers → ℕ → Option Assigned
replaced buffers u = replaced_if (slot_of buffers u) buffers

-- where this buffer gives up its place, block b is put aside: the buffer holds it, and is updated
abbrev pub is_put_aside : Option Assigned → ℕ → Bool
is_put_aside None b = false
is_put_aside (Some x) b = x.updated && (b == x.block)

abbrev pub blanked_if : Option ℕ → Buffers → List ℕ → List ℕ
blanked_if (Some slot) buffers space = space
blanked_if None buffers space = with_bytes space (buffer_at (slot_for buffers)) (replicate 1024 32)

-- data space once block u has a buffer: a new one is blank
abbrev pub blanked : Buffers → ℕ → List ℕ → List ℕ
blanked buffers u space = blanked_if (slot_of buffers u) buffers space

-- one of these buffers is assigned to block u
abbrev pub is_among : List Assigned → ℕ → Bool
is_among [] u = false
is_among (x ∷ xs) u = (u == x.block) || is_among xs u

-- what a call gave as its answer, and the bytes that it left in its argument
abbrev pub with_bytes_left : {A E : Type 0} → Result A E → List ℕ → Result (List ℕ) E
with_bytes_left (Ok value) bytes = Ok bytes
with_bytes_left (Err fault) bytes = Err fault

-- a place where a text may be
abbrev pub IsPlace : TextPlace → Type 0
IsPlace (InBuffer slot) = slot < 4
IsPlace InStore = Unit {0}

-- where a text is at hand without a call of the device: in this slot, else in the store, where that keeps it
abbrev pub in_store : (kept : Bool) → Option TextPlace
in_store true = Some InStore
in_store false = None

abbrev pub at_hand : Option ℕ → (kept : Bool) → Option TextPlace
at_hand (Some slot) kept = Some (InBuffer slot)
at_hand None kept = in_store kept

module _ {D : Type 0} {G : Ghosts D} where
  -- the text at a place
  abbrev pub text_at : TextPlace → Store D G → List ℕ → List ℕ
  text_at (InBuffer slot) store space = buffer_bytes space slot
  text_at InStore store space = text_of store

  -- what a search for a text answered, with the bytes at the place that it gave
  abbrev pub text_found : Result TextPlace BlockFault → Store D G → List ℕ → Result (List ℕ) BlockFault
  text_found (Ok place) store space = Ok (text_at place store space)
  text_found (Err fault) store space = Err fault

  -- whether block u was changed since the last save: its buffer is updated, or it was spilled
  abbrev pub is_changed : Store D G → Buffers → ℕ → Bool
  is_changed store buffers u = is_among (updated_ones buffers) u || is_pending store u

  -- how many blocks a save has to commit
  abbrev pub changed_count : Store D G → Buffers → ℕ
  changed_count store buffers = count_below (is_changed store buffers) (blocks_of store)

  -- what is pending once a buffer gave up its place: what was before, and its block if it was updated
  abbrev pub PendingOnceReplaced : Store D G → Store D G → Option Assigned → Type 0
  PendingOnceReplaced old new replaced = (b : ℕ) → is_pending new b ≡ (is_put_aside replaced b || is_pending old b)
