use Rattle.std.proofs.Common.{sym, arith}
use Rattle.block_buffers.proofs.Order.{slot_below_four, oldest-seen}
use Rattle.block_buffers.proofs.buffers.Buffers.oldest.Goals as goal

pub bounds-self-inside-slot : goal.bounds-self-inside-slot
bounds-self-inside-slot c = let s = c.self.inside in
    slot_below_four s.updated s.slots.entries _ (c.in_ok-block.block.now, c.in_ok-block.slot.now) c.self.invariant.1 (sym c.in_ok-block.ensures)

pub returns-clause-oldest : goal.returns-clause-oldest
returns-clause-oldest c = let s = c.self.inside in
    rw (← c.self.view_is) (oldest-seen s.updated s.slots.entries (c.in_ok-block.block.now, c.in_ok-block.slot.now) c.self.invariant.1 (omega arith) (sym c.in_ok-block.ensures))

pub returns-clause-below : goal.returns-clause-below
returns-clause-below c = let s = c.self.inside in
    slot_below_four s.updated s.slots.entries _ (c.in_ok-block.block.now, c.in_ok-block.slot.now) c.self.invariant.1 (sym c.in_ok-block.ensures)
