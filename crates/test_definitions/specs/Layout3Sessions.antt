-- A session over an image of layout 3 on a disk in units of eight: what its bytes mean, what the session replies, what it saves, and
-- which calls of the disk are begun for it at most.
use Rattle.std.specs.Prelude.{◌≡◌, ◌==◌, ◌-◌, ◌*◌, ◌/◌, ◌%◌, ℕ, Bool, true, false, nat_lt, if◌then◌else◌, List, [], ◌∷◌, codes, take, drop, replicate, slice_get, Option, Some, None, refl}
use Rattle.number_io.specs.Writing.{divided, digits_of}
use Rattle.test_devices.specs.Coarse.{in_eights}
use Rattle.sector_disk.specs.Disk.{Image, Disk}
use Rattle.recovery.specs.Label.{is_size}
use Rattle.shadow.specs.Label.{refusal}
use Rattle.journal.specs.PageImages.{meaning}
use Rattle.journal.specs.PageLayout.{bits_apart, gate_open, label_of, sectors_for}
use Rattle.journal.specs.Costs.{save_syncs}
use Rattle.block_words.specs.Words.{Wear}
use Rattle.block_words.specs.Calls.{writes_of, reads_of}
use Rattle.test_definitions.specs.Playing.{Exchange, ◌⇒◌, Plays, over, image, screen, saved_after, wear_after}
use Rattle.test_definitions.specs.Stops.{synced_disk}

abbrev pub or_blank : Option (List ℕ) → List ℕ
or_blank None = replicate 1024 32
or_blank (Some bytes) = bytes

-- what stands in the sector of this number of a block's sixteen: its halves in the first two, and else zeros, for tags too, since what
-- an image means doesn't hang on them
abbrev pub in_place : ℕ → List ℕ → List ℕ
in_place i bytes = if i == 0 then take 512 bytes else (if i == 1 then drop 512 bytes else replicate 512 0)

-- an image of layout 3 with a closed gate and these blocks, and blank ones after them, each in its first place
abbrev pub image_of : List (List ℕ) → Image
image_of blocks k =
    if k == 0 then label_of 32 else (if nat_lt k 32 then replicate 512 0 else in_place ((k - 32) % 16) (or_blank (slice_get blocks ((k - 32) / 16))))

abbrev pub texts : List (List ℕ)
texts = screen [] ∷ screen (codes ": DOUBLE DUP + ; 21 DOUBLE .") ∷ screen (codes "7") ∷ []

abbrev pub the_disk : Disk
the_disk = in_eights 544 (synced_disk (image_of texts))

-- It has the size and the label of an image of layout 3 with 32 blocks, and its units are pages.
its_size : sectors_for 32 ≡ 544
its_size = refl

its_label : refusal 544 (the_disk.content 0) ≡ None
its_label = refl

of_layout_3 : is_size 544 ≡ false
of_layout_3 = refl

its_units : the_disk.unit 0 ∷ the_disk.unit 7 ∷ the_disk.unit 8 ∷ the_disk.unit 543 ∷ [] ≡ 0 ∷ 0 ∷ 1 ∷ 67 ∷ []
its_units = refl

its_blocks : meaning 32 the_disk.content ≡ image texts
unfolding gate_open bits_apart
its_blocks = refl

-- what a session over it replies
abbrev pub lines : List Exchange
lines =
    codes "1 LOAD" ⇒ codes "42  ok" ∷
    codes "2 BLOCK C@ ." ⇒ codes "55  ok" ∷
    codes "56 2 BLOCK C! UPDATE 65 3 BLOCK C! UPDATE SAVE-BUFFERS" ⇒ codes " ok" ∷ []

its_replies : Plays (over (meaning 32 the_disk.content)) [] lines
unfolding digits_of divided gate_open bits_apart
its_replies = refl

-- what it saved
saved : saved_after (over (meaning 32 the_disk.content)) [] lines
    ≡ image (screen [] ∷ screen (codes ": DOUBLE DUP + ; 21 DOUBLE .") ∷ screen (codes "8") ∷ screen (codes "A") ∷ [])
unfolding digits_of divided gate_open bits_apart
saved = refl

-- eight words and the end of block 1 were taken, each with a read of it at most, the blocks 2 and 3 read, and both spilled and committed
abbrev pub its_wear : Wear
its_wear = record { reads = 11; spills = 2; commits = 1; committed = 2 }

worn : wear_after (over (meaning 32 the_disk.content)) [] lines ≡ its_wear
unfolding digits_of divided gate_open bits_apart
worn = refl

-- how many writes, syncs and reads a store has begun for that at most, by layout 2 or by layout 3
abbrev pub most_calls : Bool → Wear → List ℕ
most_calls older wear = writes_of older wear ∷ save_syncs older * wear.commits ∷ reads_of older wear ∷ []

by_layout_3 : most_calls (is_size 544) its_wear ≡ 8 ∷ 2 ∷ 24 ∷ []
by_layout_3 = refl

by_layout_2 : most_calls (is_size 131) its_wear ≡ 11 ∷ 4 ∷ 30 ∷ []
by_layout_2 = refl
