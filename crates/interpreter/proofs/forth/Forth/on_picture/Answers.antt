use Rattle.std.proofs.Common.{sym, subst}
use Rattle.interpreter.specs.Pictures.{on_picture}
use Rattle.interpreter.specs.State.{with_run}
use Rattle.interpreter.specs.Representation.{core}
use Rattle.interpreter.specs.ServiceContract.{Altered}
use Rattle.interpreter.proofs.forth.Forth.on_picture.Goals as goal

pub returns-in-BeginPicture-clause-alters : goal.returns-in-BeginPicture-clause-alters
returns-in-BeginPicture-clause-alters g c = λ levels x stands.
    subst (λ w. Altered {D = g.row.D.Denot} {G = g.D.SectorDevice} (λ r. on_picture w (core c.args.self.now) (with_run r x)) c.begin_picture.result c.args.self.now
    c.begin_picture.new.self levels x) (sym c.in-BeginPicture.is)
    (c.begin_picture.ensures.alters levels x stands)
