use Rattle.stacks.proofs.Entries.{lies, peeked}
use Rattle.stacks.proofs.return_stack.ReturnStack.peek.Goals as goal

pub returns : goal.returns
returns c = peeked c.self.inside.places c.self.inside.units c.args.self.now (lies c.self.view_is c.self.invariant)
