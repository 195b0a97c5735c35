-- Bytes in memory as a device, of which no read fails.
use Rattle.std.specs.Prelude.{◌≡◌, ℕ, ◌+◌, ◌-◌, ◌^◌, ◌==◌, if◌then◌else◌, min, false, List, Option, Some, None}
use Rattle.sector_disk.specs.Disk.{Disk, Image}
use Rattle.sector_disk.specs.declared.device.Counts.{Counts}
use Rattle.sector_disk.specs.declared.device.SectorDevice.{Ghosts}
use Rattle.recovery.specs.Steps.{OnlyRead}
use Rattle.image_care.specs.Through.{image_of}
use Rattle.image_care.specs.declared.still_disk.Replacement.{Replacement}

-- an image with other bytes in the place of one sector, if any are
abbrev pub replaced : Option Replacement → Image → Image
replaced None image = image
replaced (Some other) image = λ k. if k == other.at then other.bytes else image k

-- these bytes as a disk, with one sector replaced, if any is: nothing of it is unsynced
abbrev pub replaced_disk : Option Replacement → List ℕ → Disk
replaced_disk replacement bytes = record {
  content = replaced replacement (image_of bytes);
  synced = replaced replacement (image_of bytes);
  unsynced = λ _. false;
  unit = λ k. k;
}

-- how many calls of it have failed: each write and each sync that was begun, and no read
abbrev pub refused : Counts → ℕ
refused counts = min (counts.writes + counts.syncs) (2 ^ 64 - 1)

-- As long as the device is only read, no call of it fails.
abbrev pub ReadsWell : {D : Type 0} → Ghosts D → D → Type 0
ReadsWell {D} G device = (after : D) → OnlyRead G device after → G.failures after ≡ G.failures device
