-- Calls of a file, one after another.
use Rattle.std.specs.Prelude.{◌≡◌}
use Rattle.sector_disk.specs.Disk.{MayLeaveEither}
use Rattle.sector_disk.specs.FileBytes.{disk_of_file}
use Rattle.sector_disk.specs.Moments.{Elapses, LeavesOnly}
use Rattle.sector_disk.specs.declared.host_file.HostFile.{Ghosts}

-- What reads and writes of a file keep to.
pub record Goes {H : Type 0} (G : Ghosts H) (old new : H) : Type 0 where
  pub model : G.keeps_model new ≡ G.keeps_model old
  pub units : G.keeps_sectors new ≡ G.keeps_sectors old
  pub settle : G.syncs_settle new ≡ G.syncs_settle old
  pub time : Elapses G.time G.left_since old new
  pub stops : LeavesOnly G.time G.left_since old new (MayLeaveEither (disk_of_file (G.bytes old)) (disk_of_file (G.bytes new)))
