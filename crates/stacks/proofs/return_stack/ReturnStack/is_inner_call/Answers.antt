use Rattle.std.proofs.Common.{◌∙◌, ◌-◌, ap, sym, not, arith}
use Rattle.stacks.specs.Stacks.{is_inner_call}
use Rattle.stacks.specs.Entries.{is_load}
use Rattle.stacks.proofs.Entries.{lies, peeked, called, inner, not_inner}
use Rattle.stacks.proofs.return_stack.ReturnStack.is_inner_call.Goals as goal

pub returns-in_default : goal.returns-in_default
returns-in_default c =
    let top = peeked c.self.inside.places c.self.inside.units c.args.self.now (lies c.self.view_is c.self.invariant) in
    sym (not_inner c.args.self.now (λ back e. c.in_default.not-Call back (top ∙ e)))

pub overflow_sub-self-inside : goal.overflow_sub-self-inside
overflow_sub-self-inside c = let x = called c.self.inside.places c.self.inside.units c.args.self.now (lies c.self.view_is c.self.invariant) c.in-Call.field-0 c.in-Call.is in omega (arith, x.some)

pub returns : goal.returns
returns c =
    let x = called c.self.inside.places c.self.inside.units c.args.self.now (lies c.self.view_is c.self.invariant) c.in-Call.field-0 c.in-Call.is in
    let below = peeked c.self.inside.places (c.self.inside.units - 1) _ x.lies in
    ap not (c.is_load.ensures ∙ ap is_load below) ∙ inner c.in-Call.field-0 _ ∙ ap is_inner_call (sym x.is)
