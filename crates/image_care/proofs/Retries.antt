-- Readings of a file, one after another.
use Rattle.std.proofs.Common.{◌<◌, ◌-◌, ℕ, zero, suc, List, Option, Some, arith}
use Rattle.image_care.specs.Seen.{GaveNoImage, IsOneOf, NoneIsWhole}

-- the first one, and then the others
module _ (gives later : ℕ → Option (List ℕ) → Type 0) (goes_on : (k : ℕ) (what : Option (List ℕ)) → later k what → gives (suc k) what) where
  pub none_then : (sectors tries : ℕ) → GaveNoImage sectors (gives 0) → NoneIsWhole sectors (tries - 1) later → (k : ℕ) → k < tries → GaveNoImage sectors (gives k)
  none_then sectors tries first others zero below = first
  none_then sectors tries first others (suc k) below =
      let other = others k (omega (arith, below)) in
      (other.0, goes_on k other.0 other.1, other.2)

  pub one_then : (tries : ℕ) (bytes : List ℕ) → IsOneOf (tries - 1) later bytes → IsOneOf tries gives bytes
  one_then tries bytes one = (suc one.0, omega (arith, one.1), goes_on one.0 (Some bytes) one.2)
