use Rattle.std.proofs.Common.{◌≡◌, ℕ, ◌<◌, Bool, true, List, [], ◌∷◌, Some, sym, subst, arith, length, set}
use Rattle.block_buffers.specs.Buffers.{IsValid, after_mark}
use Rattle.block_buffers.specs.Seen.{seen}
use Rattle.std.specs.List.{slice_get}
use Rattle.block_buffers.proofs.Order.{slot_below_four, marked-seen, valid_marks}
use Rattle.block_buffers.proofs.buffers.Buffers.mark.Goals as goal

current_mark : (u : List Bool) (es : List (ℕ × ℕ)) (e : ℕ × ℕ) → slice_get es 0 ≡ Some e → length u ≡ 4 → IsValid (seen es u) → seen es (set u e.1 true) ≡ after_mark (seen es u)
current_mark u [] e h four v = cc
current_mark u (f ∷ es) e h four v =
    let same : f ≡ e = cc in
    let below : e.1 < 4 = slot_below_four u (f ∷ es) 0 e v h in
    subst (λ g. seen (f ∷ es) (set u g.1 true) ≡ after_mark (seen (f ∷ es) u)) same (marked-seen u f es (rw same (omega arith)) v)

pub bounds-self-inside-slot : goal.bounds-self-inside-slot
bounds-self-inside-slot c = let s = c.self.inside in
    slot_below_four s.updated s.slots.entries 0 (c.in-Some.field-0-0.now, c.in-Some.slot.now) c.self.invariant.1 (sym c.in-Some.ensures)

pub invariant_of-self : goal.invariant_of-self
invariant_of-self c = let s = c.self.inside in (c.self.invariant.0, valid_marks s.updated _ s.slots.entries c.self.invariant.1)

pub returns-clause-buffers : goal.returns-clause-buffers
returns-clause-buffers c = let s = c.self.inside in
    subst (λ v. seen s.slots.entries (set s.updated c.in-Some.slot.now true) ≡ after_mark v) c.self.view_is (current_mark s.updated s.slots.entries (c.in-Some.field-0-0.now, c.in-Some.slot.now) (sym c.in-Some.ensures) c.self.told c.self.invariant.1)

pub returns-clause-valid : goal.returns-clause-valid
returns-clause-valid c = let s = c.self.inside in valid_marks s.updated _ s.slots.entries c.self.invariant.1
