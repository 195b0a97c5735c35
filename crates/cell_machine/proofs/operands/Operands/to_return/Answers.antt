use Rattle.std.proofs.Common.{arith}
use Rattle.cell_machine.proofs.Lists.{list_short, to_return_did, to_return_full}
use Rattle.cell_machine.proofs.operands.Operands.to_return.Goals as goal

pub returns-in_err-begin-clause-ended : goal.returns-in_err-begin-clause-ended
returns-in_err-begin-clause-ended c = grind (arith, list_short)

pub returns-in_err-push_entry-clause-ended : goal.returns-in_err-push_entry-clause-ended
returns-in_err-push_entry-clause-ended c = grind (arith, to_return_full)

pub returns-clause-did : goal.returns-clause-did
returns-clause-did c = grind (arith, to_return_did)
