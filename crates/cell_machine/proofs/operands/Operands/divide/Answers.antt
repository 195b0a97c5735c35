use Rattle.std.proofs.Common.{refl, arith}
use Rattle.cell_machine.proofs.Deeds.{short}
use Rattle.cell_machine.proofs.Wides.{quotient_none, quotient_did}
use Rattle.cell_machine.proofs.operands.Operands.divide.Goals as goal

pub returns-in_err-begin-clause-ended : goal.returns-in_err-begin-clause-ended
returns-in_err-begin-clause-ended c = grind (arith, short)

pub returns-in_err-quot-clause-ended : goal.returns-in_err-quot-clause-ended
returns-in_err-quot-clause-ended c = grind (arith, quotient_none)

pub returns-clause-did : goal.returns-clause-did
returns-clause-did c = λ space. quotient_did c.args.places.now c.args.self.now.depth c.args.self.now.top space c.args.budget.now c.begin.new.budget _ _ c.in_ok-quot.quot c.in_ok-quot.field-0-1 c.in_ok-begin.ensures.step c.in_ok-begin.ensures.paid c.in_ok-begin.ensures.deep refl refl c.in_ok-quot.ensures.parts
