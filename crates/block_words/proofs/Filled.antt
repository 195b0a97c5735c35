-- A loan that left as many bytes as it was given.
use Rattle.std.proofs.Common.{◌≡◌, ◌≤◌, ◌<◌, ◌+◌, ℕ, List, ◌++◌, take, drop, length, arith}
use Rattle.std.proofs.lemmas.List.{length-take, length-drop, length-append, take_at}
use Rattle.std.specs.List.{refill}
use Rattle.data_space.specs.Space.{with_bytes, buffer_at}

length_with : (space : List ℕ) (a : ℕ) (bytes : List ℕ) → a + length bytes ≤ length space → length (with_bytes space a bytes) ≡ length space
length_with space a bytes h =
    omega (arith, length-append (take a space) (bytes ++ drop (length bytes) (drop a space)), length-append bytes (drop (length bytes) (drop a space)), length-take a space, length-drop (length bytes) (drop a space), length-drop a space)

pub returned : (space : List ℕ) (slot : ℕ) (bytes : List ℕ) → length space ≡ 65536 → slot < 4 → length bytes ≡ 1024
    → refill (length space) space (with_bytes space (buffer_at slot) bytes) ≡ with_bytes space (buffer_at slot) bytes
returned space slot bytes n s b =
    take_at (with_bytes space (buffer_at slot) bytes) _ (length space) (length_with space (buffer_at slot) bytes (omega arith))
