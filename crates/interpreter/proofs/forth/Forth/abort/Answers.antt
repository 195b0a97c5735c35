use Rattle.std.proofs.Common.{refl}
use Rattle.interpreter.specs.Lines.{at_rest, dropped, with_empty_stack}
use Rattle.interpreter.proofs.LineContract.{lined_as}
use Rattle.interpreter.proofs.forth.Forth.abort.Goals as goal

pub returns-clause-lined : goal.returns-clause-lined
returns-clause-lined g c = λ d x same_core rests.
    lined_as g.T.Terminal _ c.say.result c.args.self.now x (λ r. refl) c.abandon.ensures.spares.device refl
    (c.say.ensures.lined (with_empty_stack (at_rest d)) (dropped x) (c.abandon.ensures.same_core d same_core) (c.abandon.ensures.closes x rests))

pub returns-clause-clears : goal.returns-clause-clears
returns-clause-clears g c = λ x rests. c.say.ensures.clears tt (dropped x) (c.abandon.ensures.closes x rests)

pub returns-clause-placed : goal.returns-clause-placed
returns-clause-placed g c = c.say.ensures.placed refl
