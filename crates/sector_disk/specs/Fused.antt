-- What a fused device is: the device within, and which calls fail.
use Rattle.std.specs.Prelude.{◌≡◌, ℕ, Bool, Result}
use Rattle.sector_disk.specs.Disk.{MayLeaveEither}
use Rattle.sector_disk.specs.Moments.{Elapses, LeavesOnly}
use Rattle.sector_disk.specs.Counting.{CountsFailure}
use Rattle.sector_disk.specs.declared.device.SectorDevice.{Ghosts}
use Rattle.sector_disk.specs.Fuse.{will_fail}
use Rattle.sector_disk.specs.declared.fused.Fused.{Fused}

abbrev pub device_of : {D : Type 0} → Fused D → D
device_of f = f.device

-- whether the j-th call from now on fails, counted from 1
abbrev pub fails_at : {D : Type 0} → Fused D → ℕ → Bool
fails_at f j = will_fail f.fuse j

-- What a call of any device keeps to.
pub record GoesOn {D : Type 0} {T E : Type 0} (G : Ghosts D) (old new : D) (result : Result T E) : Type 0 where
  pub sectors : G.sector_count new ≡ G.sector_count old
  pub model : G.keeps_model new ≡ G.keeps_model old
  pub units : G.keeps_sectors new ≡ G.keeps_sectors old
  pub time : Elapses G.time G.left_since old new
  pub stops : LeavesOnly G.time G.left_since old new (MayLeaveEither (G.disk old) (G.disk new))
  pub failures : CountsFailure (G.failures old) (G.failures new) result
