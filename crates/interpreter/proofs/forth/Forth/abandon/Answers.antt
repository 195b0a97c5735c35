use Rattle.std.proofs.Common.{◌≡◌, ◌∙◌, length, refl, ap}
use Rattle.interpreter.specs.Lines.{at_rest, dropped, with_empty_stack}
use Rattle.interpreter.specs.Representation.{core}
use Rattle.interpreter.proofs.Clearing.{state_is_zero, blk_is_zero}
use Rattle.interpreter.proofs.forth.Forth.abandon.Goals as goal

pub returns-clause-closes : goal.returns-clause-closes
returns-clause-closes g c = λ x h. c.close.ensures.closes x h

pub returns-clause-same_core : goal.returns-clause-same_core
returns-clause-same_core g c = λ d h. record { stack = search c.clear.ensures; space = (c.close.ensures.space d h).space }

pub returns-clause-clears : goal.returns-clause-clears
returns-clause-clears g c = λ x h.
    let d = core c.args.self.now in
    let space = (c.close.ensures.space d (record { space = refl })).space in
    let whole : length (at_rest d).space ≡ 65536 = ap length space ∙ c.close.ensures.size in (
      record { budget = c.close.new.self.budget.steps; undoes = c.close.new.self.budget.undoes; core = with_empty_stack (at_rest d); world = dropped x },
      record { budget = refl; undoes = refl; same_core = returns-clause-same_core g c d (record { space = refl }); rests = c.close.ensures.closes x h },
      record { stack = refl; interprets = state_is_zero d whole; reads_the_line = blk_is_zero d whole; closed = refl },
    )
