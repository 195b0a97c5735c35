-- The states of a disk while an image is made, what a stop then may leave, and what a copy does.
use Rattle.std.specs.Prelude.{◌≡◌, ◌⊎◌, ℕ, false, IsTrue}
use Rattle.sector_disk.specs.Counting.{count_up}
use Rattle.sector_disk.specs.Disk.{Disk, Image, MayLeave}
use Rattle.sector_disk.specs.declared.device.SectorDevice.{Ghosts}
use Rattle.journal.specs.Calls.{StopsLeave, BeginsAtMost, Proceeds}
use Rattle.journal.specs.Layout.{HasGoodLabel, label_of}
use Rattle.recovery.specs.Formatted.{IsFilled}
use Rattle.recovery.specs.declared.fault.OpenFault.TheVariants.{Device}
use Rattle.recovery.specs.declared.fault.UpgradeFault.{UpgradeFault}
use Rattle.recovery.specs.declared.fault.UpgradeFault.TheVariants.{Old, New}

-- The image is whole, and nothing is unsynced.
pub record IsMade (n : ℕ) (bytes : Image) (disk : Disk) : Type 0 where
  pub filled : IsFilled n bytes disk.content
  pub label : disk.content 0 ≡ label_of n
  pub synced : (k : ℕ) → disk.unsynced k ≡ false

-- There is no good label, or the image could be left before.
abbrev pub TakenAway : ℕ → Disk → Image → Type 0
TakenAway n disk image = ¬ HasGoodLabel n image ⊎ (HasGoodLabel n image × MayLeave disk image)

-- A device was only read.
pub record OnlyRead {D : Type 0} (G : Ghosts D) (old new : D) : Type 0 where
  pub disk : IsTrue (G.keeps_model old) → G.disk new ≡ G.disk old
  pub stops : IsTrue (G.keeps_model old) → StopsLeave G old new (MayLeave (G.disk old))
  pub passes : Proceeds G old new
  pub begins : BeginsAtMost G old new 0 0

-- No call of two devices failed.
abbrev pub WentWell : {A B : Type 0} → Ghosts A → Ghosts B → A → A → B → B → Type 0
WentWell G H source source' target target' =
    (G.failures source' ≡ G.failures source) × (H.failures target' ≡ H.failures target)

-- An upgrade's fault within its copying is that of the one device that failed, once.
abbrev pub TellsFault : {A B : Type 0} → Ghosts A → Ghosts B → A → A → B → B → UpgradeFault → Type 0
TellsFault G H source source' target target' e =
    ((e ≡ Old Device) × (G.failures source' ≡ count_up (G.failures source)) × (H.failures target' ≡ H.failures target))
    ⊎ ((e ≡ New Device) × (G.failures source' ≡ G.failures source) × (H.failures target' ≡ count_up (H.failures target)))
