-- The definitions computed on small sessions. A buffer's address is 61,440 and 1,024 for each slot.
use Rattle.std.proofs.Common.{◌≡◌, ℕ, true, List, [], ◌∷◌, Option, Some, None, refl}
use Rattle.block_buffers.specs.declared.buffers.Assigned.{Assigned}
use Rattle.block_buffers.specs.Buffers.{Buffers, none_assigned, assigned, slot_of, touched, oldest, placed, after_mark, updated_ones, unmarked}

abbrev used_if : Option Assigned → Buffers → ℕ → Buffers
used_if (Some x) buffers block = touched buffers x
used_if None buffers block = placed buffers block

-- these blocks are used in turn, each by BLOCK
abbrev used : Buffers → List ℕ → Buffers
used buffers [] = buffers
used buffers (block ∷ blocks) = used (used_if (assigned buffers.list block) buffers block) blocks

-- 0 BLOCK 1 BLOCK 2 BLOCK 3 BLOCK 0 BLOCK 4 BLOCK U. prints 62464: block 1 was the least recently used
least_recently_used : slot_of (used none_assigned (0 ∷ 1 ∷ 2 ∷ 3 ∷ 0 ∷ 4 ∷ [])) 4 ≡ Some 1
least_recently_used = refl

-- after 1 to 5 block 1 has no buffer, and its slot is that of block 5
reused : slot_of (used none_assigned (1 ∷ 2 ∷ 3 ∷ 4 ∷ 5 ∷ [])) 5 ≡ Some 0
reused = refl

dropped : slot_of (used none_assigned (1 ∷ 2 ∷ 3 ∷ 4 ∷ 5 ∷ [])) 1 ≡ None
dropped = refl

-- three buffers leave a free one
no_oldest : oldest (used none_assigned (1 ∷ 2 ∷ 3 ∷ 2 ∷ [])) ≡ None
no_oldest = refl

-- UPDATE marks the current buffer, and none where there is none
marked_current : updated_ones (after_mark (used none_assigned (7 ∷ 8 ∷ 7 ∷ []))) ≡ record { block = 7; slot = 0; updated = true } ∷ []
marked_current = refl

marked_none : after_mark none_assigned ≡ none_assigned
marked_none = refl

-- the mark goes with its buffer's block: the next block there is not updated
mark_ends : updated_ones (used (after_mark (used none_assigned (1 ∷ []))) (2 ∷ 3 ∷ 4 ∷ 5 ∷ [])) ≡ []
mark_ends = refl

-- the most recently used of the updated buffers is the first
save_order : updated_ones (used (after_mark (used (after_mark (used none_assigned (1 ∷ []))) (2 ∷ []))) (1 ∷ [])) ≡ record { block = 1; slot = 0; updated = true } ∷ record { block = 2; slot = 1; updated = true } ∷ []
save_order = refl

none_updated : updated_ones (unmarked (after_mark (used none_assigned (1 ∷ [])))) ≡ []
none_updated = refl
