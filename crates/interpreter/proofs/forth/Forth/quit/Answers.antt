use Rattle.std.proofs.Common.{◌∙◌, refl, sym}
use Rattle.interpreter.specs.Lines.{at_rest, dropped}
use Rattle.interpreter.proofs.LineContract.{lined_as}
use Rattle.interpreter.proofs.forth.Forth.quit.Goals as goal

pub returns-clause-lined : goal.returns-clause-lined
returns-clause-lined g c = λ d x same_core rests.
    lined_as g.T.Terminal _ c.say.result c.args.self.now x (λ r. refl) c.close.ensures.spares.device refl
    (c.say.ensures.lined (at_rest d) (dropped x) (record { stack = same_core.stack ∙ sym c.close.ensures.stack; space = (c.close.ensures.space d (record { space = same_core.space })).space }) (c.close.ensures.closes x rests))

pub returns-clause-clears : goal.returns-clause-clears
returns-clause-clears g c = λ x rests. c.say.ensures.clears tt (dropped x) (c.close.ensures.closes x rests)

pub returns-clause-placed : goal.returns-clause-placed
returns-clause-placed g c = c.say.ensures.placed refl
