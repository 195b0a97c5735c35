use Rattle.std.proofs.Common.{◌∙◌, refl, sym, ap}
use Rattle.interpreter.specs.State.{with_run}
use Rattle.interpreter.specs.Stops.{fault_of}
use Rattle.interpreter.specs.Lines as lines
use Rattle.interpreter.specs.Lines.{at_rest, dropped, with_empty_stack, replied}
use Rattle.interpreter.specs.Terminals.{print}
use Rattle.interpreter.proofs.LineContract.{lined_as}
use Rattle.interpreter.proofs.Telling.{fault_counts}
use Rattle.interpreter.specs.Stops.{fault_count}
use Rattle.interpreter.proofs.forth.Forth.fail.Goals as goal

pub returns-clause-lined : goal.returns-clause-lined
returns-clause-lined g c = λ d x space rests.
    lined_as g.T.Terminal _ c.say.result c.args.self.now x
    (λ r. ap (λ l. replied (lines.LineEnd.Fails (fault_of c.args.fault)) c.args.place (print l (with_empty_stack (at_rest d)) (with_run r (dropped x)))) (sym c.fault_text-text.ensures ∙ sym c.as_slice.ensures.value))
    c.abandon.ensures.spares.device refl
    (c.say.ensures.lined (with_empty_stack (at_rest d)) (dropped x) (c.abandon.ensures.same_core d space) (c.abandon.ensures.closes x rests))

pub returns-clause-counts : goal.returns-clause-counts
returns-clause-counts g c = λ count. c.say.ensures.counts count (fault_count c.args.fault count) (fault_counts c.args.fault count)

pub returns-clause-clears : goal.returns-clause-clears
returns-clause-clears g c = λ x rests. c.say.ensures.clears (c.abandon.ensures.clears x rests) (dropped x) (c.abandon.ensures.closes x rests)

pub returns-clause-placed : goal.returns-clause-placed
returns-clause-placed g c = c.say.ensures.placed c.requires
