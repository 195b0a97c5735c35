-- How what is kept is seen: a cache from blocks to slots, the most recently used first, and a mark for each slot.
use Rattle.std.specs.Prelude.{ℕ, Bool, false, List, map, slice_index_or}
use Rattle.block_buffers.specs.declared.buffers.Assigned.{Assigned}
use Rattle.block_buffers.specs.Buffers.{Buffers, first_block}

abbrev pub assigned_at : List Bool → ℕ × ℕ → Assigned
assigned_at updated entry = record { block = entry.0; slot = entry.1; updated = slice_index_or updated entry.1 false }

-- the current buffer is the most recently used one
abbrev pub seen : List (ℕ × ℕ) → List Bool → Buffers
seen entries updated =
    record { list = map (assigned_at updated) entries; current = first_block (map (assigned_at updated) entries) }
