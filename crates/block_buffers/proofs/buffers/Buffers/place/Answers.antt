use Rattle.std.proofs.Common.{◌≡◌, ℕ, Bool, false, List, None, sym, subst, length, map, nat_eq, set}
use Rattle.block_buffers.specs.Buffers.{IsValid, assigned, placed, slot_for}
use Rattle.block_buffers.specs.Seen.{seen, assigned_at}
use Rattle.lru.specs.LruCache.{LruCache, put_entries}
use Rattle.block_buffers.proofs.Order.{placed-seen, valid_placed, no_entry, place_below}
use Rattle.block_buffers.proofs.buffers.Buffers.place.Goals as goal

put_seen : (cache : LruCache ℕ ℕ) (u : List Bool) (b s : ℕ) → cache.cap ≡ 4 → IsValid (seen cache.entries u) → length u ≡ 4 → s ≡ slot_for (seen cache.entries u) → assigned (map (assigned_at u) cache.entries) b ≡ None → seen (put_entries nat_eq cache b s) (set u s false) ≡ placed (seen cache.entries u) b
put_seen cache u b s cap v four slot new =
    rw (no_entry u cache.entries b new, cap) (placed-seen u cache.entries b s v four slot)

pub invariant_of-self-2 : goal.invariant_of-self-2
invariant_of-self-2 c =
    let cache = c.self.inside.slots in
    let u = c.self.inside.updated in
    let new = subst (λ v. assigned v.list c.args.block ≡ None) (sym c.self.view_is) c.requires in
    let slot = subst (λ v. c.next_slot-slot.result ≡ slot_for v) (sym c.self.view_is) c.next_slot-slot.ensures in
    rw (c.in_ok-put.ensures.entries, put_seen cache u c.args.block c.next_slot-slot.result c.self.invariant.0 c.self.invariant.1 c.self.told slot new) (c.self.invariant.0, valid_placed u cache.entries c.args.block c.self.invariant.1 new)

pub returns-clause-ok : goal.returns-clause-ok
returns-clause-ok c =
    let cache = c.self.inside.slots in
    let u = c.self.inside.updated in
    let new = subst (λ v. assigned v.list c.args.block ≡ None) (sym c.self.view_is) c.requires in
    let slot = subst (λ v. c.next_slot-slot.result ≡ slot_for v) (sym c.self.view_is) c.next_slot-slot.ensures in
    rw c.in_ok-put.ensures.entries (subst (λ v. seen (put_entries nat_eq cache c.args.block c.next_slot-slot.result) (set u c.next_slot-slot.result false) ≡ placed v c.args.block) c.self.view_is (put_seen cache u c.args.block c.next_slot-slot.result c.self.invariant.0 c.self.invariant.1 c.self.told slot new))

pub returns-clause-valid : goal.returns-clause-valid
returns-clause-valid c =
    let cache = c.self.inside.slots in
    let u = c.self.inside.updated in
    let new = subst (λ v. assigned v.list c.args.block ≡ None) (sym c.self.view_is) c.requires in
    let slot = subst (λ v. c.next_slot-slot.result ≡ slot_for v) (sym c.self.view_is) c.next_slot-slot.ensures in
    rw (c.in_ok-put.ensures.entries, put_seen cache u c.args.block c.next_slot-slot.result c.self.invariant.0 c.self.invariant.1 c.self.told slot new) (valid_placed u cache.entries c.args.block c.self.invariant.1 new)

pub returns-clause-below : goal.returns-clause-below
returns-clause-below c =
    let slot = subst (λ v. c.next_slot-slot.result ≡ slot_for v) (sym c.self.view_is) c.next_slot-slot.ensures in
    rw slot (place_below c.self.inside.updated c.self.inside.slots.entries c.self.invariant.1)
