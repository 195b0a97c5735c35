-- The places that the entries of the return stack lie in.
use Rattle.std.specs.Prelude.{◌≡◌, ℕ, zero, suc, ◌-◌, Bool, true, false, List, [], ◌∷◌, length, slice_index_or}
use Rattle.stacks.specs.declared.return_stack.Entry.{Entry}
use Rattle.stacks.specs.declared.return_stack.Entry.TheVariants.{Loop, Load}
use Rattle.stacks.specs.Stacks.{entry_units}

-- a loop
abbrev pub is_loop : Entry → Bool
is_loop (Loop limit index) = true
is_loop _ = false

-- a load
abbrev pub is_load : Entry → Bool
is_load (Load block to_in) = true
is_load _ = false

-- a loop with this index, and any other entry as it is
abbrev pub indexed : ℕ → Entry → Entry
indexed index (Loop limit old) = Loop limit index
indexed index entry = entry

abbrev pub entry_at : List Entry → ℕ → Entry
entry_at places at = slice_index_or places at (Load 0 0)

-- at most this many entries, the top at place `top`, each of the others just below the first unit of the one above it
unfoldable pub entries_in : (most : ℕ) → List Entry → (top : ℕ) → List Entry
entries_in zero places top = []
entries_in (suc most) places zero = []
entries_in (suc most) places (suc k) = entry_at places (suc k) ∷ entries_in most places (suc k - entry_units (entry_at places (suc k)))

-- 257 places, with a load below the bottom
pub record IsGround (places : List Entry) : Type 0 where
  pub size : length places ≡ 257
  pub below : entry_at places 0 ≡ Load 0 0
