-- What a stop between two lines may leave.
use Rattle.std.specs.Prelude.{◌≡◌, Bool, true, false, []}
use Rattle.std.proofs.Common.{refl, sym, ◌∙◌}
use Rattle.sector_disk.specs.Disk.{Image, MayLeave}
use Rattle.sector_disk.specs.declared.device.SectorDevice.{Ghosts}
use Rattle.journal.specs.Store.{StandsFor, device_of}
use Rattle.journal.specs.declared.store.Store.{Store}
use Rattle.block_words.specs.Calls.{CallLeaves}
use Rattle.interpreter.specs.State.{Forth}
use Rattle.interpreter.specs.Promise.{Keeps}

-- Where nothing is done, nothing is lost: a stop leaves what the store stands for.
pub stop_keeps_maps : {D : Type 0} (G : Ghosts D) (only_now : (d : D) (c : Image) → G.left_since d (G.time d) c → MayLeave (G.disk d) c)
    (store : Store D G) (s : Forth) → StandsFor store s.world.maps → Keeps G s s (device_of store) (device_of store) []
stop_keeps_maps {D} G only_now store s is = record {
  kept = record { sectors = refl; leaves = leaves_at s.world.maps.closed refl };
  shuts = λ h. h;
  none = λ h. refl;
  last = λ h. refl;
}
  where
    leaves_at : (closed : Bool) → s.world.maps.closed ≡ closed → CallLeaves G closed (device_of store) (device_of store) s.world.maps.saved []
    leaves_at true h = λ c since. only_now (device_of store) c since
    leaves_at false h = λ c since. is.left (sym is.closed ∙ h) c (only_now (device_of store) c since)
