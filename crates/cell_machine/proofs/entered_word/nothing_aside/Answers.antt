use Rattle.std.proofs.Common.{refl}
use Rattle.cell_machine.proofs.Onces.{nothing_aside}
use Rattle.cell_machine.proofs.entered_word.nothing_aside.Goals as goal

pub returns-clause-ended : goal.returns-clause-ended
returns-clause-ended c = λ word a u places space.
    nothing_aside places c.args.operands.now.depth c.args.operands.now.top space c.args.budget.now c.begin.new.budget u _ _ c.in_ok-begin.ensures.step c.in_ok-begin.ensures.paid refl word a
