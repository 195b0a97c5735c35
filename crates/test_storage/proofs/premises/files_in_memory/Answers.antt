use Rattle.std.proofs.Common.{refl}
use Rattle.sector_disk.specs.contracts.sector_file.SectorFileSectorDevice.TheImpl.{ghosts}
use Rattle.test_devices.specs.contracts.memory_file.MemoryFile.{the_row}
use Rattle.test_devices.specs.contracts.memory_file.MemoryFileHostFile.TheImpl as file
use Rattle.test_storage.proofs.Suited.{both}
use Rattle.test_storage.proofs.premises.files_in_memory.Goals as goal

pub returns : goal.returns
returns c = both (ghosts the_row file.ghosts file.dict) c.args.device.now refl refl
