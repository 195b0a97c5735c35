-- Devices of which no read fails.
use Rattle.std.proofs.Common.{◌≡◌, ◌∙◌, ap, arith}
use Rattle.sector_disk.specs.Counting.{count_up}
use Rattle.sector_disk.specs.declared.device.SectorDevice.{Ghosts}
use Rattle.recovery.specs.Steps.{OnlyRead}
use Rattle.image_care.specs.StillDisk.{ReadsWell}

-- What was only read, and of which no call had failed, isn't told as a device that failed.
pub not_failed : {D : Type 0} (G : Ghosts D) (device after : D) → ReadsWell G device → G.failures device ≡ 0 → OnlyRead G device after
    → G.failures after ≡ count_up (G.failures device) → ⊥
not_failed G device after well none read failed =
    let same : G.failures after ≡ 0 = well after read ∙ none in
    let more : G.failures after ≡ count_up 0 = failed ∙ ap count_up none in
    omega (arith, same, more)
