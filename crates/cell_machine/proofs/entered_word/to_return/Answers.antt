use Rattle.std.proofs.Common.{refl, arith}
use Rattle.stacks.specs.Stacks.{units}
use Rattle.cell_machine.proofs.Onces.{to_return_full}
use Rattle.cell_machine.proofs.entered_word.to_return.Goals as goal

pub returns-then-units-ge256-clause-ended : goal.returns-then-units-ge256-clause-ended
returns-then-units-ge256-clause-ended c = λ space.
    to_return_full c.args.places.now c.args.operands.now.depth c.args.operands.now.top space c.args.budget.now c.begin.new.budget (units c.args.returns.now) _ _
    c.in_ok-begin.ensures.step c.in_ok-begin.ensures.paid c.in_ok-begin.ensures.deep (omega (arith, c.units.ensures.value)) refl
