use Rattle.std.proofs.Common.{arith}
use Rattle.cell_machine.proofs.Deeds.{short}
use Rattle.cell_machine.proofs.Wides.{add_did}
use Rattle.cell_machine.proofs.operands.Operands.add_wide.Goals as goal

pub returns-in_err-begin-clause-ended : goal.returns-in_err-begin-clause-ended
returns-in_err-begin-clause-ended c = grind (arith, short)

pub returns-clause-did : goal.returns-clause-did
returns-clause-did c = grind (arith, add_did)
