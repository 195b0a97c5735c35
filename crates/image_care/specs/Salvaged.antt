-- What a salvage takes of an image, and which devices it refuses.
use Rattle.std.specs.Prelude.{◌≡◌, ℕ, ◌+◌, ◌*◌, ◌==◌, ◌&&◌, not, false, if◌then◌else◌, List, Option, Some, None, MatchBool}
use Rattle.sector_disk.specs.Disk.{Image}
use Rattle.journal.specs.Images.{slot_of, home_of, blocks_below, is_damaged, is_true_record}
use Rattle.journal.specs.Layout.{gate_open, listed}
use Rattle.journal.specs.PageImages as pages_images
use Rattle.journal.specs.PageImages.{record_of}
use Rattle.recovery.specs.Label as journal
use Rattle.recovery.specs.declared.fault.OpenFault.TheVariants.{BadSize}
use Rattle.recovery.specs.declared.fault.UpgradeFault.{UpgradeFault}
use Rattle.recovery.specs.declared.fault.UpgradeFault.TheVariants.{Old, New}
use Rattle.shadow.specs.Label as pages
use Rattle.shadow.specs.Label.{is_known_size}
use Rattle.image_care.specs.Examined.{reads_to_list}
use Rattle.image_care.specs.Standing as standing
use Rattle.image_care.specs.Standing.{reads_to_take, standing_of}
use Rattle.image_care.specs.declared.pages.standing.Standing.{Standing}
use Rattle.image_care.specs.declared.pages.standing.Standing.TheVariants.{Current}

-- the refusal of a salvage, which is by the sizes alone: both devices are as large
abbrev pub salvage_refusal : (old new : ℕ) → Option UpgradeFault
salvage_refusal old new =
    if not (is_known_size old) then Some (Old BadSize) else (if not (new == old) then Some (New BadSize) else None)

-- The bytes of block b of an image of n blocks, of layout 2, as a salvage takes it: its slot where the gate is open over a record that
-- has the digest of its bits and slots, and that lists it; else its home. Of a damaged image these may be no blocks of one save:
-- where one was under way, some may be old and some new.
abbrev pub salvaged_block : ℕ → Image → ℕ → List ℕ
salvaged_block n image b =
    if (gate_open (image 1) && is_true_record n (image 2) image) && listed (image 2) b then slot_of image b else home_of n image b

-- the blocks that a salvage takes from an image with so many sectors
abbrev pub salvaged_blocks : ℕ → Image → List (List ℕ)
salvaged_blocks sectors image =
    if journal.is_size sectors then blocks_below (salvaged_block (journal.blocks_in sectors) image) (journal.blocks_in sectors)
    else standing.salvaged_blocks (pages.blocks_in sectors) image

-- where block b stands: by layout 2, which has no tags, each where it counts
abbrev pub standing_in : ℕ → Image → ℕ → Standing
standing_in sectors image b = if journal.is_size sectors then Current else standing_of image b

-- An image with so many sectors isn't damaged, whatever its label is.
abbrev pub IsUndamaged : ℕ → Image → Type 0
IsUndamaged sectors image = MatchBool (journal.is_size sectors)
    (is_damaged (journal.blocks_in sectors) image ≡ false) (pages_images.IsWhole (pages.blocks_in sectors) image)

-- How many reads take it: of layout 2 of the gate, under an open one of the record and the listed slots, and each block once; of layout 3
-- of gate and record, and of each block the place that counts, and where it is damaged the other one.
abbrev pub reads_to_salvage : ℕ → Image → ℕ
reads_to_salvage sectors image =
    if journal.is_size sectors then reads_to_list (journal.blocks_in sectors) image + 2 * journal.blocks_in sectors
    else reads_to_take (pages.blocks_in sectors) (record_of image) image + 2
