-- What a host is asked for, in bytes.
use Rattle.std.specs.Prelude.{ℕ, List, ◌∷◌}
use Rattle.std.specs.Int.{to_le_bytes, w32}
use Rattle.hosted.specs.declared.host.Request.{Request}
use Rattle.hosted.specs.declared.host.Request.TheVariants.{Read, Write, Sync}

-- The eight bytes of a request: `r`, `w` or `s`, three zeros, and the sector's number, low byte first.
abbrev pub request_bytes : Request → List ℕ
request_bytes (Read k) = 114 ∷ 0 ∷ 0 ∷ 0 ∷ to_le_bytes w32 k
request_bytes (Write k) = 119 ∷ 0 ∷ 0 ∷ 0 ∷ to_le_bytes w32 k
request_bytes Sync = 115 ∷ 0 ∷ 0 ∷ 0 ∷ to_le_bytes w32 0
