-- A file as a run of bytes: what a read gives, what a stop may leave, and what each call does to it.
use Rattle.std.specs.Prelude.{◌≡◌, ◌⊎◌, ◌<◌, ◌≤◌, ◌+◌, ◌*◌, ℕ, zero, suc, Bool, true, false, List, [], ◌∷◌, slice_index}
use Rattle.sector_disk.specs.Disk.{Disk}

-- The bytes by their places: what a read gives, and what was there when a sync last succeeded. And which sectors of
-- 512 bytes, by their numbers, were touched after it.
pub record FileBytes : Type 0 where
  pub content : ℕ → ℕ
  pub synced : ℕ → ℕ
  pub unsynced : ℕ → Bool
  -- The number of a sector's unit, which is the sector itself where units are sectors. A write touches each sector of a unit
  -- in which it writes.
  pub unit : ℕ → ℕ

-- n bytes from a place on
unfoldable pub span : (ℕ → ℕ) → ℕ → ℕ → List ℕ
span bytes at zero = []
span bytes at (suc n) = bytes at ∷ span bytes (at + 1) n

-- the bytes of sector k
unfoldable pub sector_of : (ℕ → ℕ) → ℕ → List ℕ
sector_of bytes k = span bytes (512 * k) 512

-- the file as a disk
abbrev pub disk_of_file : FileBytes → Disk
disk_of_file file = record {
  content = sector_of file.content;
  synced = sector_of file.synced;
  unsynced = file.unsynced;
  unit = file.unit;
}

-- the file after a sync
abbrev pub settled_file : FileBytes → FileBytes
settled_file file = record { content = file.content; synced = file.content; unsynced = λ _. false; unit = file.unit }

-- Sector k holds what it held.
abbrev pub SameBytes : (k : ℕ) (old new : FileBytes) → Type 0
SameBytes k old new = (i : ℕ) → i < 512 → new.content (512 * k + i) ≡ old.content (512 * k + i)

-- And it is as synced as it was.
pub record SameSector (k : ℕ) (old new : FileBytes) : Type 0 where
  pub bytes : SameBytes k old new
  pub unsynced : new.unsynced k ≡ old.unsynced k

-- none of these n bytes lies in sector k
abbrev pub Misses : (at n k : ℕ) → Type 0
Misses at n k = (512 * k + 512 ≤ at) ⊎ (at + n ≤ 512 * k)

-- What a write of n bytes does whatever it answers: each unit that it touches is as before, or all of it is unsynced; each sector
-- in which none of these bytes lies holds what it held; and each unit that it doesn't touch is as synced as it was.
pub record Spoils (at n : ℕ) (old new : FileBytes) : Type 0 where
  pub synced : new.synced ≡ old.synced
  pub unit : new.unit ≡ old.unit
  pub touched : (k : ℕ) → ((j : ℕ) → old.unit j ≡ old.unit k → SameSector j old new)
      ⊎ ((j : ℕ) → old.unit j ≡ old.unit k → new.unsynced j ≡ true)
  pub missed : (k : ℕ) → Misses at n k → SameBytes k old new
  pub apart : (k : ℕ) → ((j : ℕ) → old.unit j ≡ old.unit k → Misses at n j) → new.unsynced k ≡ old.unsynced k

-- What a write that took the first n bytes does: they are at their places, each other byte is as before, and the
-- units that they lie in are unsynced.
pub record Puts (at : ℕ) (bytes : List ℕ) (n : ℕ) (old new : FileBytes) : Type 0 where
  pub put : (i : ℕ) → i < n → new.content (at + i) ≡ slice_index bytes i
  pub before : (p : ℕ) → p < at → new.content p ≡ old.content p
  pub after : (p : ℕ) → at + n ≤ p → new.content p ≡ old.content p
  pub marks : (j k : ℕ) → old.unit j ≡ old.unit k → 0 < n → 512 * k < at + n → at < 512 * k + 512 → new.unsynced j ≡ true

-- What a read that gave n bytes has given.
abbrev pub Gives : FileBytes → (at : ℕ) (bytes : List ℕ) (n : ℕ) → Type 0
Gives file at bytes n = (i : ℕ) → i < n → slice_index bytes i ≡ file.content (at + i)
