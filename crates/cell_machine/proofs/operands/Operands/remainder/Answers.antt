use Rattle.std.proofs.Common.{refl, arith}
use Rattle.cell_machine.proofs.Deeds.{short}
use Rattle.cell_machine.proofs.Wides.{remainder_none, remainder_did}
use Rattle.cell_machine.proofs.operands.Operands.remainder.Goals as goal

pub returns-in_err-begin-clause-ended : goal.returns-in_err-begin-clause-ended
returns-in_err-begin-clause-ended c = grind (arith, short)

pub returns-in_err-rem-clause-ended : goal.returns-in_err-rem-clause-ended
returns-in_err-rem-clause-ended c = grind (arith, remainder_none)

pub returns-clause-did : goal.returns-clause-did
returns-clause-did c = λ space. remainder_did c.args.places.now c.args.self.now.depth c.args.self.now.top space c.args.budget.now c.begin.new.budget _ _ c.in_ok-rem.field-0-0 c.in_ok-rem.rem c.in_ok-begin.ensures.step c.in_ok-begin.ensures.paid c.in_ok-begin.ensures.deep refl refl c.in_ok-rem.ensures.parts
