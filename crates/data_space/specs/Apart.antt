-- When bytes can be moved as a whole.
use Rattle.std.specs.Prelude.{ℕ, ◌+◌, ◌≤◌, ◌⊎◌}

-- the ranges of n bytes from `from` and `to` on have no byte in common
abbrev pub AreApart : ℕ → ℕ → ℕ → Type 0
AreApart from to n = (from + n ≤ to) ⊎ (to + n ≤ from)
