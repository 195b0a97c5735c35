use Rattle.std.proofs.Common.{sym, ap, slice_get}
use Rattle.stacks.proofs.Entries.{lies, empty, has_top}
use Rattle.stacks.proofs.return_stack.ReturnStack.top.Goals as goal

pub returns-then-self-eq0-clause-empty : goal.returns-then-self-eq0-clause-empty
returns-then-self-eq0-clause-empty c = empty c.self.inside.places c.self.inside.units c.args.self.now (lies c.self.view_is c.self.invariant) c.if-self-eq0.true

pub returns-clause-ok : goal.returns-clause-ok
returns-clause-ok c = sym (ap (λ l. slice_get l 0) (has_top c.self.inside.places c.self.inside.units c.args.self.now (lies c.self.view_is c.self.invariant) c.if-self-eq0.false))
