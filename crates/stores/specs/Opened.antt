-- Which images are opened, what an opening may leave, and how many calls it makes.
use Rattle.std.specs.Prelude.{ℕ, ◌+◌, ◌*◌, if◌then◌else◌, Bool, List, Result, Option, Some, None, MatchBool}
use Rattle.sector_disk.specs.Disk.{Disk, Image, MayLeave}
use Rattle.sector_disk.specs.declared.device.SectorDevice.{Ghosts}
use Rattle.journal.specs.Clean as older_clean
use Rattle.journal.specs.PageClean as newer_clean
use Rattle.recovery.specs.Label as older_label
use Rattle.recovery.specs.Opened as older
use Rattle.recovery.specs.Opened.{first_of}
use Rattle.recovery.specs.declared.fault.OpenFault.{OpenFault}
use Rattle.recovery.specs.declared.fault.OpenFault.TheVariants.{Damaged}
use Rattle.shadow.specs.Label as newer_label
use Rattle.stores.specs.Damage.{is_whole}
use Rattle.journal.specs.declared.store.Store.{Store}

-- the refusal of an image of layout 3 with so many sectors: that of its size or label, and then that of damage
abbrev pub newer_refusal : ℕ → Image → Option OpenFault
newer_refusal sectors image =
    first_of (newer_label.refusal sectors (image 0)) (if is_whole (newer_label.blocks_in sectors) image then None else Some Damaged)

-- The refusal of an image with so many sectors, by the layout that images of this size have; one of no size at all is refused for that.
abbrev pub image_refusal : ℕ → Image → Option OpenFault
image_refusal sectors image =
    if older_label.is_size sectors then older.image_refusal sectors image else newer_refusal sectors image

-- A stop of an opening of this disk may leave the image: of layout 2 one that follows an image which a stop may leave now, and of layout 3
-- such an image itself.
abbrev pub OpeningLeaves : ℕ → Disk → Image → Type 0
OpeningLeaves sectors disk image = MatchBool (older_label.is_size sectors)
    (older.RecoveryLeaves (older_label.blocks_in sectors) disk image) (MayLeave disk image)

-- A disk of so many sectors on which a store of n blocks begins: by layout 2 nothing is left to do, and by layout 3 the gate names this
-- record, and nothing is damaged.
abbrev pub IsReady : (sectors n : ℕ) (is_open : Bool) (listing : List ℕ) → Disk → Type 0
IsReady sectors n is_open listing disk = MatchBool (older_label.is_size sectors)
    (older_clean.IsClean n disk) (newer_clean.IsClean n is_open listing disk)

-- how many writes, syncs and reads an opening of an image with so many sectors begins at most
abbrev pub writes_for : ℕ → Image → ℕ
writes_for sectors image = if older_label.is_size sectors then older.writes_for (older_label.blocks_in sectors) image else 0

abbrev pub syncs_for : ℕ → Image → ℕ
syncs_for sectors image = if older_label.is_size sectors then older.syncs_for image else 1

abbrev pub reads_for : ℕ → Image → ℕ
reads_for sectors image =
    if older_label.is_size sectors then older.reads_for (older_label.blocks_in sectors) image
    else 3 * newer_label.blocks_in sectors + 3

-- the device, in a store or handed back
abbrev pub end_of : {D : Type 0} {G : Ghosts D} → Result (Store D G) (OpenFault × D) → D
end_of result = older.end_of result
