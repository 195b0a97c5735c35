use Rattle.std.proofs.Common.{arith}
use Rattle.cell_machine.proofs.Deeds.{short}
use Rattle.cell_machine.proofs.Wides.{both_none, both_did}
use Rattle.cell_machine.proofs.operands.Operands.divide_both.Goals as goal

pub returns-in_err-begin-clause-ended : goal.returns-in_err-begin-clause-ended
returns-in_err-begin-clause-ended c = grind (arith, short)

pub returns-in_err-quot-clause-ended : goal.returns-in_err-quot-clause-ended
returns-in_err-quot-clause-ended c = grind (arith, both_none)

pub returns-clause-did : goal.returns-clause-did
returns-clause-did c = grind (arith, both_did)
