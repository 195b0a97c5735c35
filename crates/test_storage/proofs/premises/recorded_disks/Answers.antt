use Rattle.std.proofs.Common.{refl}
use Rattle.test_devices.specs.contracts.recorded.RecordedSectorDevice.TheImpl.{ghosts}
use Rattle.test_storage.proofs.Suited.{both}
use Rattle.test_storage.proofs.premises.recorded_disks.Goals as goal

pub returns : goal.returns
returns c = both ghosts c.args.device.now refl refl
