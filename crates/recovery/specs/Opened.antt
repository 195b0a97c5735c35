-- Which refusal an image gives, and what a recovery makes of a disk.
use Rattle.std.specs.Prelude.{ℕ, ◌+◌, ◌*◌, if◌then◌else◌, List, replicate, Result, Ok, Err, Option, Some, None}
use Rattle.sector_disk.specs.Disk.{Disk, Image, MayLeave}
use Rattle.sector_disk.specs.declared.device.SectorDevice.{Ghosts}
use Rattle.journal.specs.declared.store.Store.{Store}
use Rattle.journal.specs.Store.{device_of}
use Rattle.journal.specs.Layout.{gate_open, count_listed}
use Rattle.journal.specs.Chain.{Follows}
use Rattle.journal.specs.Images.{is_damaged}
use Rattle.recovery.specs.Label.{blocks_in, refusal}
use Rattle.recovery.specs.declared.fault.OpenFault.{OpenFault}
use Rattle.recovery.specs.declared.fault.OpenFault.TheVariants.{Damaged}

-- the refusal of an image of n blocks with the good label
abbrev pub damage_refusal : ℕ → Image → Option OpenFault
damage_refusal n image = if is_damaged n image then Some Damaged else None

abbrev pub first_of : {E : Type 0} → Option E → Option E → Option E
first_of (Some e) second = Some e
first_of None second = second

-- the refusal of an image with so many sectors: that of its size or label, and then that of its record
abbrev pub image_refusal : ℕ → Image → Option OpenFault
image_refusal sectors image = first_of (refusal sectors (image 0)) (damage_refusal (blocks_in sectors) image)

-- the device, in a store or handed back
abbrev pub end_of : {D : Type 0} {G : Ghosts D} → Result (Store D G) (OpenFault × D) → D
end_of (Ok store) = device_of store
end_of (Err refused) = refused.1

-- A stop of a recovery of this disk may leave the image: it follows one that a stop may leave now.
pub record RecoveryLeaves (n : ℕ) (disk : Disk) (image : Image) : Type 0 where
  pub from : Image
  pub may : MayLeave disk from
  pub follows : Follows n from image

-- the gate after a recovery: an open one is zeros then, and a closed one is left as it is
abbrev pub gate_after : List ℕ → List ℕ
gate_after gate = if gate_open gate then replicate 512 0 else gate

-- how many writes and syncs a recovery of this image begins at most
abbrev pub writes_for : ℕ → Image → ℕ
writes_for n image = if gate_open (image 1) then 2 * count_listed (image 2) n + 1 else 0

-- how many reads: of the label and the gate; and under an open gate of the record too, and of each listed slot twice, for
-- the digest and for the home
abbrev pub reads_for : ℕ → Image → ℕ
reads_for n image = if gate_open (image 1) then 4 * count_listed (image 2) n + 3 else 2

abbrev pub syncs_for : Image → ℕ
syncs_for image = if gate_open (image 1) then 3 else 1
