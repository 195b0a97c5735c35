use Rattle.std.proofs.Common.{refl}
use Rattle.sector_disk.specs.contracts.memory_disk.MemoryDiskSectorDevice.TheImpl.{ghosts}
use Rattle.test_storage.proofs.Suited.{by_layout}
use Rattle.test_storage.proofs.premises.disks_in_memory_by_layout.Goals as goal

pub returns : goal.returns
returns c = by_layout ghosts c.args.device.now refl refl
