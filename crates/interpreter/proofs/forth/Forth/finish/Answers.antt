use Rattle.std.proofs.Common.{◌≡◌, ◌∙◌, true, false, refl, sym, ap}
use Rattle.interpreter.specs.State.{with_run}
use Rattle.interpreter.specs.Lines.{end_of_line}
use Rattle.interpreter.specs.Text.{compiling}
use Rattle.data_space.specs.Space.{cell_at}
use Rattle.std.specs.Prelude.{not, ◌==◌}
use Rattle.interpreter.proofs.LineContract.{lined_as}
use Rattle.interpreter.proofs.forth.Forth.finish.Goals as goal

pub returns-then-is_compiling-clause-lined : goal.returns-then-is_compiling-clause-lined
returns-then-is_compiling-clause-lined g c = λ d x same_core rests.
    let is : compiling d ≡ true = ap (λ s. not (cell_at s 18 == 0)) same_core.space ∙ sym c.is_compiling.ensures ∙ c.if-is_compiling.true in
    lined_as g.T.Terminal _ c.say.result c.args.self.now x (λ r. ap (λ b. end_of_line b d (with_run r x)) is) refl refl (c.say.ensures.lined d x same_core rests)

pub returns-else-is_compiling-clause-lined : goal.returns-else-is_compiling-clause-lined
returns-else-is_compiling-clause-lined g c = λ d x same_core rests.
    let is : compiling d ≡ false = ap (λ s. not (cell_at s 18 == 0)) same_core.space ∙ sym c.is_compiling.ensures ∙ c.if-is_compiling.false in
    lined_as g.T.Terminal _ c.say-else-is_compiling.result c.args.self.now x (λ r. ap (λ b. end_of_line b d (with_run r x)) is) refl refl (c.say-else-is_compiling.ensures.lined d x same_core rests)

pub returns-then-is_compiling-clause-clears : goal.returns-then-is_compiling-clause-clears
returns-then-is_compiling-clause-clears g c = λ x rests. c.say.ensures.clears tt x rests

pub returns-else-is_compiling-clause-clears : goal.returns-else-is_compiling-clause-clears
returns-else-is_compiling-clause-clears g c = λ x rests. c.say-else-is_compiling.ensures.clears tt x rests

pub returns-then-is_compiling-clause-placed : goal.returns-then-is_compiling-clause-placed
returns-then-is_compiling-clause-placed g c = c.say.ensures.placed refl

pub returns-else-is_compiling-clause-placed : goal.returns-else-is_compiling-clause-placed
returns-else-is_compiling-clause-placed g c = c.say-else-is_compiling.ensures.placed refl
