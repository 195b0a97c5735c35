-- what the fates leave of a copy, a stop may leave of the disk
use Rattle.std.proofs.Common.{subst}
use Rattle.sector_disk.specs.Disk.{MayLeave}
use Rattle.sector_disk.specs.MemoryDisk.{held}
use Rattle.test_stops.proofs.fates.after_stop.Goals as goal

pub returns-clause-left : goal.returns-clause-left
returns-clause-left c = subst (λ d. MayLeave d (held c.stop.result).content) c.in_ok-try_clone.ensures.disk c.stop.ensures.left
