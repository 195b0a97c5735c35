use Rattle.std.proofs.Common.{IsTrue, refl, subst, sym}
use Rattle.test_devices.specs.contracts.coarse.CoarseSectorDevice.TheImpl.{ghosts}
use Rattle.journal.proofs.Suited.{newer_suits}
use Rattle.test_storage.proofs.premises.disks_in_eights.Goals as goal

pub returns : goal.returns
returns c = λ isnt. subst IsTrue (sym (newer_suits ghosts c.args.device.now isnt)) refl
