use Rattle.std.proofs.Common.{arith}
use Rattle.journal.proofs.Sums.{xor_of}
use Rattle.journal.proofs.pages.tags.add.Goals as goal

pub returns : goal.returns
returns c = xor_of c.args.sum.now c.args.tag.now c.loop-i.sum c.loop-i.invariant.long (λ j below. c.loop-i.invariant.done j (omega (arith, c.told-sum, below)))
