use Rattle.std.proofs.Common.{arith}
use Rattle.cell_machine.proofs.Floors.{both_up, divisor_down, dividend_down, both_down}
use Rattle.cell_machine.proofs.division.quotient.Goals as goal

pub returns-then-by-ge0 : goal.returns-then-by-ge0
returns-then-by-ge0 c = grind (arith, both_up)

pub returns-else-by-ge0 : goal.returns-else-by-ge0
returns-else-by-ge0 c = grind (arith, divisor_down)

pub returns-then-by-ge0-2 : goal.returns-then-by-ge0-2
returns-then-by-ge0-2 c = grind (arith, dividend_down)

pub returns-else-by-ge0-2 : goal.returns-else-by-ge0-2
returns-else-by-ge0-2 c = grind (arith, both_down)
