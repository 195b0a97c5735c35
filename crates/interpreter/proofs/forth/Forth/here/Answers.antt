use Rattle.std.proofs.Common.{ap, sym, arith}
use Rattle.interpreter.specs.State.{pushing, with_run}
use Rattle.interpreter.specs.Representation.{core}
use Rattle.interpreter.proofs.Altering.{altered_as}
use Rattle.interpreter.proofs.forth.Forth.here.Goals as goal

pub returns-clause-alters : goal.returns-clause-alters
returns-clause-alters g c = λ levels x stands.
    altered_as _ c.args.self.now (λ r. ap (λ w. pushing w (core c.args.self.now) (with_run r x)) (sym (c.here-here.ensures.here _ stands.rests.meant))) (omega arith) (c.push.ensures.alters levels x stands)
