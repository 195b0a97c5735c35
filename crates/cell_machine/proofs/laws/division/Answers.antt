use Rattle.cell_machine.proofs.Divides.{floored_divides}
use Rattle.cell_machine.proofs.laws.division.Goals as goal

pub returns : goal.returns
returns c a b h = floored_divides a b h
