use Rattle.std.proofs.Common.{refl}
use Rattle.sector_disk.specs.contracts.memory_disk.MemoryDiskSectorDevice.TheImpl.{ghosts}
use Rattle.test_storage.proofs.Suited.{both}
use Rattle.test_storage.proofs.premises.disks_in_memory.Goals as goal

pub returns : goal.returns
returns c = both ghosts c.args.device.now refl refl
