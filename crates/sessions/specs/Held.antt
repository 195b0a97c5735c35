use Rattle.std.specs.Prelude.{ℕ, List, take, drop}

-- the bytes of a piece that were read and not yet given
abbrev pub held : List ℕ → (next end : ℕ) → List ℕ
held bytes next end = drop next (take end bytes)
