use Rattle.stacks.proofs.Places.{stack_in-none}
use Rattle.stacks.proofs.data_stack.DataStack.clear.Goals as goal

pub returns : goal.returns
returns c = stack_in-none _
