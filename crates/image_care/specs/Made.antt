-- What an image becomes that is made by the layout that its size tells, and what a stop of its making leaves.
use Rattle.std.specs.Prelude.{◌≡◌, ℕ, ◌+◌, ◌*◌, false, if◌then◌else◌, List, replicate, MatchBool}
use Rattle.sector_disk.specs.Disk.{Disk, Image}
use Rattle.journal.specs.Images.{HasHomes}
use Rattle.journal.specs.Layout as journal
use Rattle.journal.specs.Maps.{block_in}
use Rattle.journal.specs.PageLayout as pages
use Rattle.recovery.specs.Formatted as journal_made
use Rattle.recovery.specs.Label.{blocks_in, is_size}
use Rattle.shadow.specs.Formatted as pages_made
use Rattle.shadow.specs.Label as pages_label

-- Of an image of n blocks of layout 2 gate and record are zeros, and the homes hold these blocks.
pub record HoldsBlocks (n : ℕ) (blocks : List (List ℕ)) (image : Image) : Type 0 where
  pub gate : image 1 ≡ replicate 512 0
  pub listed : image 2 ≡ replicate 512 0
  pub homes : HasHomes n (block_in blocks) image

-- An image with so many sectors is laid as by a format, with these blocks in its homes, or by layout 3 in its first places.
abbrev pub Holds : (sectors : ℕ) → List (List ℕ) → Image → Type 0
Holds sectors blocks image = MatchBool (is_size sectors)
    (HoldsBlocks (blocks_in sectors) blocks image) (pages_made.IsFilled (pages_label.blocks_in sectors) (block_in blocks) image)

-- the label of such an image
abbrev pub label_for : (sectors : ℕ) → List ℕ
label_for sectors =
    if is_size sectors then journal.label_of (blocks_in sectors) else pages.label_of (pages_label.blocks_in sectors)

-- It holds these blocks under its label, and nothing is unsynced.
pub record IsMade (sectors : ℕ) (blocks : List (List ℕ)) (disk : Disk) : Type 0 where
  pub held : Holds sectors blocks disk.content
  pub label : disk.content 0 ≡ label_for sectors
  pub synced : (k : ℕ) → disk.unsynced k ≡ false

-- What is no part of it is as it was: by layout 2 the slots, and by layout 3 all but label, gate, records, first places and the tags
-- of the second ones.
abbrev pub KeepsRest : (sectors : ℕ) → Image → Image → Type 0
KeepsRest sectors old new =
    MatchBool (is_size sectors) (journal_made.KeepsSlots (blocks_in sectors) old new) (pages_made.KeepsRest old new)

-- A stop while an image of these blocks is made of this disk may leave the image: it has no good label, or means these blocks, or is
-- one of the labelled images that could be left before, by layout 3 but for the other sectors in the unit of the label.
abbrev pub MakingLeaves : (sectors : ℕ) → List (List ℕ) → Disk → Image → Type 0
MakingLeaves sectors blocks disk image = MatchBool (is_size sectors)
    (journal_made.MakingLeaves (blocks_in sectors) blocks disk image) (pages_made.MakingLeaves (pages_label.blocks_in sectors) blocks disk image)

-- how many writes make it at most: zeros over a label, what the layout has of each block and beside the blocks, and the label
abbrev pub writes_to_make : (sectors : ℕ) → ℕ
writes_to_make sectors = if is_size sectors then 2 * blocks_in sectors + 4 else 4 * pages_label.blocks_in sectors + 5

-- Within this crate: an image of n blocks of layout 2 is whole, and nothing is unsynced.
pub record IsWhole (n : ℕ) (blocks : List (List ℕ)) (disk : Disk) : Type 0 where
  pub held : HoldsBlocks n blocks disk.content
  pub label : disk.content 0 ≡ journal.label_of n
  pub synced : (k : ℕ) → disk.unsynced k ≡ false
