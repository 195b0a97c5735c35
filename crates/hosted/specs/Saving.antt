-- Blocks that are saved together.
use Rattle.std.specs.Prelude.{ℕ, List, [], ◌∷◌, take, drop, slice_set}

-- These blocks with others put over them, one after another: each takes its 1,024 bytes of the bytes that are left.
abbrev pub with_blocks : (saved : List (List ℕ)) → (blocks bytes : List ℕ) → List (List ℕ)
with_blocks saved [] bytes = saved
with_blocks saved (b ∷ blocks) bytes = with_blocks (slice_set saved b (take 1024 bytes)) blocks (drop 1024 bytes)
