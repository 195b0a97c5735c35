-- The steps of the code: room for a new buffer, and spills up to one that fails. No public contract cites these.
use Rattle.std.specs.Prelude.{◌≡◌, ◌++◌, ◌+◌, ℕ, length, Bool, true, false, ◌&&◌, List, [], ◌∷◌, Option, Some, None, nat_lt, Result, Ok, Err}
use Rattle.data_space.specs.Space.{buffer_at, buffer_bytes, with_bytes}
use Rattle.journal.specs.Maps.{Maps, spilled}
use Rattle.block_buffers.specs.declared.buffers.Assigned.{Assigned}
use Rattle.block_words.specs.declared.buffered_blocks.BlockFault.{BlockFault}
use Rattle.block_words.specs.Words.{Wear, no_wear, spill_wear}

abbrev pub spilled_if : Bool → Assigned → List ℕ → Maps → Maps
spilled_if true x space m = spilled m x.block (buffer_bytes space x.slot)
spilled_if false x space m = m

-- the maps once the oldest buffer may be used for another block
abbrev pub room_made : Option Assigned → List ℕ → Maps → Maps
room_made None space m = m
room_made (Some x) space m = spilled_if x.updated x space m

abbrev pub is_updated : Option Assigned → Bool
is_updated None = false
is_updated (Some x) = x.updated

-- what that wears, by whether the buffer is updated
abbrev pub room_wear : Bool → Wear
room_wear true = spill_wear
room_wear false = no_wear

-- the blocks of these buffers are below n
abbrev pub within : ℕ → List Assigned → Bool
within n [] = true
within n (x ∷ xs) = nat_lt x.block n && within n xs

-- the address of the buffer in a slot
abbrev pub address_of : Result ℕ BlockFault → Result ℕ BlockFault
address_of (Ok slot) = Ok (buffer_at slot)
address_of (Err fault) = Err fault

-- data space with these bytes in the buffer that was given
abbrev pub filled_in : Result ℕ BlockFault → List ℕ → List ℕ → List ℕ
filled_in (Ok slot) space bytes = with_bytes space (buffer_at slot) bytes
filled_in (Err fault) space bytes = space

-- A spill failed: those before it are spilled, and no more was begun than these and this one take.
pub record SpillFails (xs : List Assigned) (stands : List Assigned → Type 0) (begun : ℕ → Type 0) : Type 0 where
  pub before : List Assigned
  pub this : Assigned
  pub after : List Assigned
  pub split : xs ≡ before ++ this ∷ after
  pub shut_so : stands before
  pub begins : begun (length before + 1)
