use Rattle.std.proofs.Common.{◌<◌, sym, ◌∙◌, subst}
use Rattle.block_buffers.specs.Seen.{seen}
use Rattle.block_buffers.proofs.Order.{slot_of_below, lookup-seen}
use Rattle.block_buffers.proofs.buffers.Buffers.peek.Goals as goal

pub returns-clause-slot : goal.returns-clause-slot
returns-clause-slot c = let s = c.self.inside in
    rw (← c.self.view_is) (c.copied.ensures ∙ c.peek.ensures ∙ lookup-seen s.updated s.slots.entries c.args.block)

pub returns-clause-below : goal.returns-clause-below
returns-clause-below c = let s = c.self.inside in
    subst (λ o. Rattle.std.specs.Option.IfSome o (λ slot. slot < 4)) (sym (c.copied.ensures ∙ c.peek.ensures ∙ lookup-seen s.updated s.slots.entries c.args.block)) (slot_of_below (seen s.slots.entries s.updated) c.args.block c.self.invariant.1)
