use Rattle.std.proofs.Common.{ℕ, map, arith}
use Rattle.std.proofs.lemmas.List.{length-map}
use Rattle.block_buffers.proofs.Order.{slot_within, before_few, slots_updated}
use Rattle.block_buffers.proofs.buffers.Buffers.updated.Goals as goal

pub bounds-self-inside-slot : goal.bounds-self-inside-slot
bounds-self-inside-slot c =
    slot_within c.self.inside.updated c.self.inside.slots.entries (map (λ e. (e.0.now, e.1.now)) c.loop-block.yielded) c.next.new.self (c.in-Some.block.now, c.in-Some.slot.now) (rw c.in-Some.ensures.steps at c.loop-block.invariant.rest) c.self.invariant.1

pub push-requires : goal.push-requires
push-requires c =
    let short = before_few c.self.inside.updated c.self.inside.slots.entries (map (λ e. (e.0.now, e.1.now)) c.loop-block.yielded) c.next.new.self (c.in-Some.block.now, c.in-Some.slot.now) (rw c.in-Some.ensures.steps at c.loop-block.invariant.rest) c.self.invariant.1 in
    let few = c.loop-block.invariant.few in
    (omega arith, omega (arith, length-map {B = ℕ × ℕ} c.loop-block.yielded (λ e. (e.0.now, e.1.now))))

pub returns-clause-below : goal.returns-clause-below
returns-clause-below c =
    slots_updated c.self.inside.updated c.self.inside.slots.entries (map (λ e. (e.0.now, e.1.now)) c.loop-block.yielded) c.loop-block.block-iterator c.loop-block.updated.items c.loop-block.invariant.rest c.self.invariant.1 c.loop-block.invariant.marked
