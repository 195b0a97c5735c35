-- A device, later.
use Rattle.std.specs.Prelude.{◌≡◌, ◌≤◌, IsTrue}
use Rattle.sector_disk.specs.Moments.{Elapses}
use Rattle.sector_disk.specs.declared.device.SectorDevice.{Ghosts}
use Rattle.journal.specs.Suits.{suits}

-- The new device is the old one later: the same model, time gone on, and no fewer failures. One that suits a store has as many
-- sectors as before.
pub record Becomes {D : Type 0} (G : Ghosts D) (old new : D) : Type 0 where
  pub model : suits G new ≡ suits G old
  pub sectors : IsTrue (suits G old) → G.sector_count new ≡ G.sector_count old
  pub time : Elapses G.time G.left_since old new
  pub failures : G.failures old ≤ G.failures new
