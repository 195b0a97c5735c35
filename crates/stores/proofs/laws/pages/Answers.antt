use Rattle.std.proofs.Common.{IsTrue, subst, sym}
use Rattle.journal.proofs.Suited.{newer_suits}
use Rattle.stores.proofs.laws.pages.Goals as goal

pub returns : goal.returns
returns g c = λ isnt keeps. subst IsTrue (sym (newer_suits g.D.SectorDevice c.args.device.now isnt)) keeps
