use Rattle.std.proofs.Common.{refl, ap, arith}
use Rattle.stacks.proofs.Entries.{none}
use Rattle.stacks.specs.Stacks.{units}
use Rattle.stacks.proofs.return_stack.ReturnStack.new.Goals as goal

pub invariant_of-result : goal.invariant_of-result
invariant_of-result c = (ap units (none 256 _), omega arith, record { size = refl; below = refl })

pub returns : goal.returns
returns c = none 256 _
