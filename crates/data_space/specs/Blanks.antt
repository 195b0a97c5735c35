-- The blanks at the end of a text.
use Rattle.std.specs.Prelude.{ℕ, suc, ◌&&◌, ◌==◌, if◌then◌else◌, List, [], ◌∷◌}

-- the bytes without the blanks at their end: how many
abbrev pub trimmed : List ℕ → ℕ
trimmed [] = 0
trimmed (b ∷ bytes) = let n = trimmed bytes in if n == 0 && b == 32 then 0 else suc n
