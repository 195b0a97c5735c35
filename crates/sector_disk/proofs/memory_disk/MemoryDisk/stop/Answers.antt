use Rattle.std.proofs.Common.{length}
use Rattle.sector_disk.specs.Memory.{disk_of}
use Rattle.sector_disk.proofs.Fates.{can_leave}
use Rattle.sector_disk.proofs.memory_disk.MemoryDisk.stop.Goals as goal

pub returns-clause-every : goal.returns-clause-every
returns-clause-every c = λ image whole may. can_leave (disk_of c.args.self.sectors.items) image (length c.args.self.sectors.items) whole may
