-- Bytes that are held.
use Rattle.std.proofs.Common.{◌≡◌, ◌≤◌, ℕ, zero, suc, List, [], ◌∷◌, refl, arith}
use Rattle.sessions.specs.Held.{held}

-- none, where the next one is past the end
pub held-none : (bytes : List ℕ) (next end : ℕ) → end ≤ next → held bytes next end ≡ []
held-none bytes zero zero le = refl
held-none bytes (suc next) zero le = refl
held-none [] zero (suc end) le = refl
held-none [] (suc next) (suc end) le = refl
held-none (b ∷ bytes) zero (suc end) le = absurd (omega (arith, le))
held-none (b ∷ bytes) (suc next) (suc end) le = held-none bytes next end (omega (arith, le))
