use Rattle.std.proofs.Common.{ap, arith}
use Rattle.stacks.proofs.Entries.{none}
use Rattle.stacks.specs.Stacks.{units}
use Rattle.stacks.proofs.return_stack.ReturnStack.clear.Goals as goal

pub invariant_of-self : goal.invariant_of-self
invariant_of-self c = (ap units (none 256 c.self.inside.places), omega arith, c.self.invariant.2)

pub returns : goal.returns
returns c = none 256 c.self.inside.places
