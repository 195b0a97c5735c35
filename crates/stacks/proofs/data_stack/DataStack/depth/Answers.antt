use Rattle.std.proofs.Common.{sym, ap, ◌∙◌, length}
use Rattle.stacks.proofs.Places.{length-stack_in}
use Rattle.stacks.proofs.data_stack.DataStack.depth.Goals as goal

pub returns-clause-value : goal.returns-clause-value
returns-clause-value c = sym (length-stack_in c.self.inside.places.items c.self.inside.depth) ∙ ap length c.self.view_is
