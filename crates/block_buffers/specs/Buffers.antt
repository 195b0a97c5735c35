-- At most four assigned buffers, the most recently used first, and the current one.
use Rattle.std.specs.Prelude.{◌≡◌, ◌≢◌, ℕ, ◌<◌, ◌≤◌, true, false, not, ◌==◌, if◌then◌else◌, List, [], ◌∷◌, length, map, filter, take, Option, Some, None}
use Rattle.block_buffers.specs.declared.buffers.Assigned.{Assigned}

pub record Buffers : Type 0 where
  pub list : List Assigned
  -- the block of the current buffer
  pub current : Option ℕ

abbrev pub none_assigned : Buffers
none_assigned = record { list = []; current = None }

-- the buffer that is assigned to this block
abbrev pub assigned : List Assigned → ℕ → Option Assigned
assigned [] block = None
assigned (x ∷ xs) block = if block == x.block then Some x else assigned xs block

abbrev pub slot_in : Option Assigned → Option ℕ
slot_in None = None
slot_in (Some x) = Some x.slot

abbrev pub slot_of : Buffers → ℕ → Option ℕ
slot_of buffers block = slot_in (assigned buffers.list block)

-- the buffers of the other blocks
abbrev pub without : List Assigned → ℕ → List Assigned
without xs block = filter (λ x. not (block == x.block)) xs

-- this buffer is used: it comes to the front and is the current one
abbrev pub touched : Buffers → Assigned → Buffers
touched buffers x = record { list = x ∷ without buffers.list x.block; current = Some x.block }

abbrev pub touched_if : Buffers → Option Assigned → Buffers
touched_if buffers None = buffers
touched_if buffers (Some x) = touched buffers x

-- this block is used: nothing changes where it has no buffer
abbrev pub after_touch : Buffers → ℕ → Buffers
after_touch buffers block = touched_if buffers (assigned buffers.list block)

abbrev pub last_of : List Assigned → Option Assigned
last_of [] = None
last_of (x ∷ []) = Some x
last_of (x ∷ y ∷ xs) = last_of (y ∷ xs)

-- the least recently used buffer, where all four are assigned
abbrev pub oldest : Buffers → Option Assigned
oldest buffers = if length buffers.list == 4 then last_of buffers.list else None

abbrev pub slot_or : Option Assigned → ℕ → ℕ
slot_or (Some x) n = x.slot
slot_or None n = n

-- the slot for a block without a buffer: the oldest one's, or the number of those that are assigned
abbrev pub slot_for : Buffers → ℕ
slot_for buffers = slot_or (oldest buffers) (length buffers.list)

-- a block without a buffer gets one: at the front, current, not updated; a fourth one before it is dropped
abbrev pub placed : Buffers → ℕ → Buffers
placed buffers block =
    record { list = record { block = block; slot = slot_for buffers; updated = false } ∷ take 3 buffers.list; current = Some block }

abbrev pub marked : ℕ → Assigned → Assigned
marked block x = if block == x.block then record x { updated = true } else x

-- the buffer of this block is updated
abbrev pub with_mark : Buffers → ℕ → Buffers
with_mark buffers block = record buffers { list = map (marked block) buffers.list }

abbrev pub marked_if : Buffers → Option ℕ → Buffers
marked_if buffers None = buffers
marked_if buffers (Some block) = with_mark buffers block

-- the current buffer is updated, where there is one
abbrev pub after_mark : Buffers → Buffers
after_mark buffers = marked_if buffers buffers.current

-- the updated buffers, in the order of the list
abbrev pub updated_ones : Buffers → List Assigned
updated_ones buffers = filter (λ x. x.updated) buffers.list

abbrev pub cleared : Assigned → Assigned
cleared x = record x { updated = false }

-- no buffer is updated
abbrev pub unmarked : Buffers → Buffers
unmarked buffers = record buffers { list = map cleared buffers.list }

-- x has another block and another slot than each of these
abbrev pub IsApart : Assigned → List Assigned → Type 0
IsApart x [] = Unit {0}
IsApart x (y ∷ ys) = (x.block ≢ y.block) × (x.slot ≢ y.slot) × IsApart x ys

-- no two have the same block or the same slot
abbrev pub AreApart : List Assigned → Type 0
AreApart [] = Unit {0}
AreApart (x ∷ xs) = IsApart x xs × AreApart xs

abbrev pub SlotsBelow : ℕ → List Assigned → Type 0
SlotsBelow n [] = Unit {0}
SlotsBelow n (x ∷ xs) = (x.slot < n) × SlotsBelow n xs

abbrev pub first_block : List Assigned → Option ℕ
first_block [] = None
first_block (x ∷ xs) = Some x.block

-- What holds of the buffers at any time. The slots in use are the first ones, so all are below four.
pub record IsValid (buffers : Buffers) : Type 0 where
  pub few : length buffers.list ≤ 4
  pub apart : AreApart buffers.list
  pub slots : SlotsBelow (length buffers.list) buffers.list
  pub current : buffers.current ≡ first_block buffers.list
