use Rattle.std.proofs.Common.{Ok, sym, subst}
use Rattle.interpreter.specs.Naming.{on_lexicon}
use Rattle.interpreter.specs.State.{with_run}
use Rattle.interpreter.specs.Representation.{core}
use Rattle.interpreter.specs.ServiceContract.{Altered}
use Rattle.interpreter.proofs.forth.Forth.on_lexicon.Goals as goal

pub returns-in-Definitions-clause-alters : goal.returns-in-Definitions-clause-alters
returns-in-Definitions-clause-alters g c = λ levels x stands.
    subst (λ w. Altered {D = g.row.D.Denot} {G = g.D.SectorDevice} (λ r. on_lexicon w (core c.args.self.now) (with_run r x)) (Ok tt) c.args.self.now
    c.definitions.new.self levels x) (sym c.in-Definitions.is)
    (c.definitions.ensures.alters levels x stands)

pub returns-in-Forth-clause-alters : goal.returns-in-Forth-clause-alters
returns-in-Forth-clause-alters g c = λ levels x stands.
    subst (λ w. Altered {D = g.row.D.Denot} {G = g.D.SectorDevice} (λ r. on_lexicon w (core c.args.self.now) (with_run r x)) (Ok tt) c.args.self.now
    c.forth.new.self levels x) (sym c.in-Forth.is)
    (c.forth.ensures.alters levels x stands)
