-- What a stop at some moment of a recorded disk's life might have left.
use Rattle.std.specs.Prelude.{◌≡◌, ◌⊎◌, ℕ, List, [], ◌∷◌, ◌++◌, drop}
use Rattle.sector_disk.specs.Disk.{Disk, Image, MayLeave}
use Rattle.sector_disk.specs.MemoryDisk.{held}
use Rattle.sector_disk.specs.declared.memory_disk.MemoryDisk.{MemoryDisk}

-- a stop at one of these moments may leave the image
abbrev pub SomeLeaves : List MemoryDisk → Image → Type 0
SomeLeaves [] c = ⊥
SomeLeaves (d ∷ past) c = MayLeave (held d) c ⊎ SomeLeaves past c

-- A stop now, or at a past moment from number t on, might have left the image. Moments are numbered from 0, the present one last.
abbrev pub LeftSince : List MemoryDisk → Disk → ℕ → Image → Type 0
LeftSince past now t c = SomeLeaves (drop t past) c ⊎ MayLeave now c

-- The new moments are the old ones and then a disk that holds this.
pub record AddsMoment (old : List MemoryDisk) (now : Disk) (new : List MemoryDisk) : Type 0 where
  pub copy : MemoryDisk
  pub same : held copy ≡ now
  pub after : new ≡ old ++ copy ∷ []
