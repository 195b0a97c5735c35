use Rattle.std.proofs.Common.{◌≡◌, ◌∙◌, sym, arith}
use Rattle.stacks.proofs.Entries.{lies, peeked, called}
use Rattle.stacks.proofs.return_stack.ReturnStack.end_call.Goals as goal

pub returns-in_default-clause-other : goal.returns-in_default-clause-other
returns-in_default-clause-other c = λ back e. c.in_default.not-Call back (peeked c.self.inside.places c.self.inside.units c.args.self.now (lies c.self.view_is c.self.invariant) ∙ e)

pub overflow_sub-self : goal.overflow_sub-self
overflow_sub-self c = let x = called c.self.inside.places c.self.inside.units c.args.self.now (lies c.self.view_is c.self.invariant) c.in-Call.back c.in-Call.is in omega (arith, x.some)

pub invariant_of-self : goal.invariant_of-self
invariant_of-self c = let x = called c.self.inside.places c.self.inside.units c.args.self.now (lies c.self.view_is c.self.invariant) c.in-Call.back c.in-Call.is in (x.lies.count, x.lies.most, x.lies.ground)

pub returns-clause-ok : goal.returns-clause-ok
returns-clause-ok c = let x = called c.self.inside.places c.self.inside.units c.args.self.now (lies c.self.view_is c.self.invariant) c.in-Call.back c.in-Call.is in x.is
