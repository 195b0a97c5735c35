use Rattle.std.proofs.Common.{◌∙◌, refl, sym, ap, arith}
use Rattle.interpreter.specs.State.{with_run}
use Rattle.interpreter.specs.Terminals.{print}
use Rattle.interpreter.specs.Representation.{core}
use Rattle.interpreter.proofs.Running.{ran_as}
use Rattle.interpreter.proofs.forth.Forth.print_text_at.Goals as goal

pub returns-clause-serves : goal.returns-clause-serves
returns-clause-serves g c = λ s at levels x stands.
    ran_as g.T.Terminal _ c.args.self.now (λ r. ap (λ t. print t (core c.args.self.now) (with_run r x)) (sym (c.split_at.ensures.front ∙ c.text-count.ensures.bytes s at))) (omega arith) refl
    (c.print.ensures.serves levels x stands)
