use Rattle.std.proofs.Common.{false, [], ◌∷◌}
use Rattle.block_buffers.proofs.Order.{valid_marks, cleared-seen}
use Rattle.block_buffers.proofs.buffers.Buffers.unmark_all.Goals as goal

pub invariant_of-self : goal.invariant_of-self
invariant_of-self c = let s = c.self.inside in (c.self.invariant.0, valid_marks s.updated (false ∷ false ∷ false ∷ false ∷ []) s.slots.entries c.self.invariant.1)

pub returns-clause-buffers : goal.returns-clause-buffers
returns-clause-buffers c = let s = c.self.inside in rw (← c.self.view_is) (cleared-seen s.updated s.slots.entries)

pub returns-clause-valid : goal.returns-clause-valid
returns-clause-valid c = let s = c.self.inside in valid_marks s.updated (false ∷ false ∷ false ∷ false ∷ []) s.slots.entries c.self.invariant.1
