use Rattle.std.proofs.Common.{◌<◌, sym, ◌∙◌, subst}
use Rattle.block_buffers.specs.Seen.{seen}
use Rattle.block_buffers.proofs.Order.{slot_of_below, lookup-seen, promoted-seen, valid_after_touch}
use Rattle.block_buffers.proofs.buffers.Buffers.touch.Goals as goal

pub invariant_of-self : goal.invariant_of-self
invariant_of-self c = let s = c.self.inside in
    rw (c.promote.ensures.entries, promoted-seen s.updated s.slots.entries c.args.block c.self.invariant.1.apart) (c.self.invariant.0, valid_after_touch _ c.args.block c.self.invariant.1)

pub returns-clause-slot : goal.returns-clause-slot
returns-clause-slot c = let s = c.self.inside in
    rw (← c.self.view_is) (c.copied-slot.ensures ∙ c.peek.ensures ∙ lookup-seen s.updated s.slots.entries c.args.block)

pub returns-clause-buffers : goal.returns-clause-buffers
returns-clause-buffers c = let s = c.self.inside in
    rw (← c.self.view_is, c.promote.ensures.entries) (promoted-seen s.updated s.slots.entries c.args.block c.self.invariant.1.apart)

pub returns-clause-valid : goal.returns-clause-valid
returns-clause-valid c = let s = c.self.inside in
    rw (c.promote.ensures.entries, promoted-seen s.updated s.slots.entries c.args.block c.self.invariant.1.apart) (valid_after_touch _ c.args.block c.self.invariant.1)

pub returns-clause-below : goal.returns-clause-below
returns-clause-below c = let s = c.self.inside in
    subst (λ o. Rattle.std.specs.Option.IfSome o (λ slot. slot < 4)) (sym (c.copied-slot.ensures ∙ c.peek.ensures ∙ lookup-seen s.updated s.slots.entries c.args.block)) (slot_of_below (seen s.slots.entries s.updated) c.args.block c.self.invariant.1)
