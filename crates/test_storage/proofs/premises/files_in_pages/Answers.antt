use Rattle.std.proofs.Common.{IsTrue, refl, subst, sym}
use Rattle.journal.proofs.Suited.{newer_suits}
use Rattle.test_storage.proofs.premises.files_in_pages.Goals as goal

pub returns : goal.returns
returns c = λ isnt. subst IsTrue (sym (newer_suits _ c.args.device.now isnt)) refl
