-- Proofs of the laws that a disk with its whole history meets as a device.
use Rattle.std.specs.Prelude.{ℕ, zero, suc, ◌≤◌, List, [], ◌∷◌, length, drop}
use Rattle.std.proofs.Common.{inl, inr}
use Rattle.std.proofs.Math.Nat.{not-suc-le-zero, le_of_suc-le-suc}
use Rattle.sector_disk.specs.Disk.{Disk, Image, MayLeave}
use Rattle.sector_disk.specs.declared.memory_disk.MemoryDisk.{MemoryDisk}
use Rattle.test_devices.specs.Recorded.{SomeLeaves, LeftSince}

none_left : (past : List MemoryDisk) (c : Image) → SomeLeaves (drop (length past) past) c → ⊥
none_left [] c some = some
none_left (d ∷ past) c some = none_left past c some

-- since the present moment only a stop now counts
pub now_alone : (past : List MemoryDisk) (now : Disk) (c : Image) → LeftSince past now (length past) c → MayLeave now c
now_alone past now c (inl some) = absurd (none_left past c some)
now_alone past now c (inr may) = may

some_after : (t : ℕ) (past : List MemoryDisk) (c : Image) → SomeLeaves (drop t past) c → SomeLeaves past c
some_after zero past c some = some
some_after (suc t) [] c some = some
some_after (suc t) (d ∷ past) c some = inr (some_after t past c some)

some_since : (s t : ℕ) (past : List MemoryDisk) (c : Image) → s ≤ t → SomeLeaves (drop t past) c → SomeLeaves (drop s past) c
some_since zero t past c le some = some_after t past c some
some_since (suc s) zero past c le some = absurd (not-suc-le-zero le)
some_since (suc s) (suc t) [] c le some = some
some_since (suc s) (suc t) (d ∷ past) c le some = some_since s t past c (le_of_suc-le-suc le) some

-- what counts since a moment counts since each earlier one
pub since_earlier : (past : List MemoryDisk) (now : Disk) (s t : ℕ) (c : Image) → s ≤ t → LeftSince past now t c → LeftSince past now s c
since_earlier past now s t c le (inl some) = inl (some_since s t past c le some)
since_earlier past now s t c le (inr may) = inr may
