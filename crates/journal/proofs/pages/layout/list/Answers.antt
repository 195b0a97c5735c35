use Rattle.std.proofs.Common.{arith}
use Rattle.journal.proofs.Bits.{bit_set, bit_kept}
use Rattle.journal.proofs.pages.layout.list.Goals as goal

pub returns-clause-listed : goal.returns-clause-listed
returns-clause-listed c = bit_set c.args.bits.now c.args.b (omega arith)

pub returns-clause-others : goal.returns-clause-others
returns-clause-others c = bit_kept c.args.bits.now c.args.b (omega arith)
