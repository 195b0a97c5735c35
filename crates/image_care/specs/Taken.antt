-- Within this crate: what is taken of an image for a new one, and what is noted of it.
use Rattle.std.specs.Prelude.{◌≡◌, ℕ, ◌<◌, ◌&&◌, not, nat_le, if◌then◌else◌, List, replicate, Option, Some, None}
use Rattle.sector_disk.specs.Disk.{Image}
use Rattle.journal.specs.Images.{is_true_record}
use Rattle.journal.specs.Layout.{gate_open, most_blocks, listed}
use Rattle.journal.specs.PageImages.{record_of}
use Rattle.recovery.specs.Found.{found_in}
use Rattle.image_care.specs.Standing.{standing_under, salvaged_under, is_damaged_under, is_other, is_nowhere}
use Rattle.image_care.specs.View.{found_by}
use Rattle.image_care.specs.declared.pages.standing.Standing.{Standing}
use Rattle.image_care.specs.declared.pages.standing.Standing.TheVariants.{Current}
use Rattle.image_care.specs.declared.view.Listing.{Listing}
use Rattle.image_care.specs.declared.view.Listing.TheVariants.{Journal, Pages}
use Rattle.image_care.specs.declared.view.View.{View}

-- block b as a look has found it, and blanks past the image's last block
abbrev pub given_by : View → Image → ℕ → List ℕ
given_by view image b = if nat_le view.blocks.number b then replicate 1024 32 else found_by view image b

-- the record under an open gate, where its digest is that of its bits and slots
abbrev pub true_record_in : ℕ → Image → Option (List ℕ)
true_record_in n image = if gate_open (image 1) && is_true_record n (image 2) image then Some (image 2) else None

-- The record is the one by which a salvage takes the blocks of an image of n: of layout 2 that of a save that is under way, where its
-- digest is true, and of layout 3 the one that the gate names, whatever its sum.
abbrev pub IsBest : Listing → ℕ → Image → Type 0
IsBest (Journal listing) n image = listing ≡ true_record_in n image
IsBest (Pages named) n image = record_of image ≡ named.listing

-- Under a record: block b of n as a salvage takes it, where it stands, and how many reads that takes.
abbrev pub taken_under : Listing → ℕ → Image → ℕ → List ℕ
taken_under (Journal listing) n image b = found_in n listing image b
taken_under (Pages named) n image b = salvaged_under named.listing image b

abbrev pub stands_under : Listing → Image → ℕ → Standing
stands_under (Journal listing) image b = Current
stands_under (Pages named) image b = standing_under named.listing image b

abbrev pub reads_under : Listing → Image → ℕ → ℕ
reads_under (Journal listing) image b = 2
reads_under (Pages named) image b = if is_damaged_under named.listing image b then 6 else 3

-- the same of the blocks that the image has, and blanks past its last one, which no read takes
abbrev pub taken_by : View → Image → ℕ → List ℕ
taken_by view image b = if nat_le view.blocks.number b then replicate 1024 32 else taken_under view.listing view.blocks.number image b

abbrev pub stands_by : View → Image → ℕ → Standing
stands_by view image b = if nat_le view.blocks.number b then Current else stands_under view.listing image b

abbrev pub reads_by : View → Image → ℕ → ℕ
reads_by view image b = if nat_le view.blocks.number b then 0 else reads_under view.listing image b

-- Of the first k blocks these list just those that stand in their other places, and those that stand nowhere; and they list no further block.
pub record Notes (k : ℕ) (standing : ℕ → Standing) (others lost : List ℕ) : Type 0 where
  pub other : (b : ℕ) → b < most_blocks → listed others b ≡ (not (nat_le k b) && is_other (standing b))
  pub nowhere : (b : ℕ) → b < most_blocks → listed lost b ≡ (not (nat_le k b) && is_nowhere (standing b))
