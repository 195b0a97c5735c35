-- Within this crate: the maps of a store after blocks were spilled, each with its 1,024 bytes, one after another.
use Rattle.std.specs.Prelude.{ℕ, List, [], ◌∷◌, take, drop}
use Rattle.journal.specs.Maps.{Maps, spilled}

abbrev pub all_spilled : Maps → (blocks bytes : List ℕ) → Maps
all_spilled m [] bytes = m
all_spilled m (b ∷ blocks) bytes = all_spilled (spilled m b (take 1024 bytes)) blocks (drop 1024 bytes)
