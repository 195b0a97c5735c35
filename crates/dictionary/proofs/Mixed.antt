-- A name mixed to a number, step by step.
use Rattle.std.proofs.Common.{◌≡◌, ℕ, ◌-◌, ◌<◌, ◌≤◌, List, [], ◌∷◌, length, take, drop, refl, arith, get_or}
use Rattle.std.proofs.Common.{w32}
use Rattle.std.specs.Int.{from_le_bytes}
use Rattle.std.proofs.lemmas.List.{take_all}
use Rattle.dictionary.specs.Chains.{joined, mixed_from}

pub mixed_from-few : (mix : ℕ) (rest : List ℕ) → length rest < 4 → joined mix (from_le_bytes w32 rest) ≡ mixed_from mix rest
unfolding mixed_from
mixed_from-few mix [] few = refl
mixed_from-few mix (a ∷ []) few = refl
mixed_from-few mix (a ∷ b ∷ []) few = refl
mixed_from-few mix (a ∷ b ∷ c ∷ []) few = refl
mixed_from-few mix (a ∷ b ∷ c ∷ d ∷ rest) few = absurd (omega arith)

-- the four bytes that joined, and the rest of what was left
pub mixed_from-four : (mix : ℕ) (rest : List ℕ) → 4 ≤ length rest →
    mixed_from (joined mix (from_le_bytes w32 (get_or rest 0 0 ∷ get_or rest 1 0 ∷ get_or rest 2 0 ∷ get_or rest 3 0 ∷ []))) (take (length rest - 4) (drop 4 rest)) ≡ mixed_from mix rest
unfolding mixed_from
mixed_from-four mix [] many = absurd (omega arith)
mixed_from-four mix (a ∷ []) many = absurd (omega arith)
mixed_from-four mix (a ∷ b ∷ []) many = absurd (omega arith)
mixed_from-four mix (a ∷ b ∷ c ∷ []) many = absurd (omega arith)
mixed_from-four mix (a ∷ b ∷ c ∷ d ∷ rest) many = rw (take_all (length (a ∷ b ∷ c ∷ d ∷ rest) - 4) rest (omega arith)) refl
