-- The places that the open structures lie in.
use Rattle.std.specs.Prelude.{ℕ, zero, suc, List, [], ◌∷◌, slice_index_or}
use Rattle.compiler.specs.declared.opens.Open.{Open}
use Rattle.compiler.specs.declared.opens.Open.TheVariants.{Begin}

-- the lowest places, so many of them, the last first
abbrev pub opens_in : List Open → ℕ → List Open
opens_in places zero = []
opens_in places (suc n) = slice_index_or places n (Begin 0) ∷ opens_in places n
