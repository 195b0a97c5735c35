-- A disk of sectors: its images, what each call does to it, and what a stop may leave.
use Rattle.std.specs.Prelude.{◌≡◌, ◌⊎◌, ◌==◌, if◌then◌else◌, ℕ, Bool, true, false, List}

-- The bytes of each sector, by its number. What an image says past the last sector counts for nothing. A sector is any list here:
-- so what is said of every image is said of more images than those whose sectors have 512 bytes.
abbrev pub Image : Type 0
Image = ℕ → List ℕ

-- What a read gives, what each sector held when a sync last succeeded, and which sectors are unsynced: a sector of their
-- unit has been written after it.
pub record Disk : Type 0 where
  pub content : Image
  pub synced : Image
  pub unsynced : ℕ → Bool
  -- The number of a sector's unit, which is the sector itself where units are sectors. A write may spoil each sector of
  -- its unit.
  pub unit : ℕ → ℕ

-- A stop may leave this image: a sector that is unsynced holds any bytes, each other one what it held at the last sync.
abbrev pub MayLeave : Disk → Image → Type 0
MayLeave disk image = (k : ℕ) → disk.unsynced k ≡ false → image k ≡ disk.synced k

-- A stop within a call may leave what a stop before it or after it may leave.
abbrev pub MayLeaveEither : Disk → Disk → Image → Type 0
MayLeaveEither old new image = MayLeave old image ⊎ MayLeave new image

-- the image with these bytes in sector k
abbrev pub with_sector : Image → ℕ → List ℕ → Image
with_sector image k bytes j = if j == k then bytes else image j

-- the disk after a write of sector k
abbrev pub written : Disk → ℕ → List ℕ → Disk
written disk k bytes = record {
  content = with_sector disk.content k bytes;
  synced = disk.synced;
  unsynced = λ j. if disk.unit j == disk.unit k then true else disk.unsynced j;
  unit = disk.unit;
}

-- After a write that failed, the disk is as before, or as after a write of any bytes to that sector.
abbrev pub MayWrite : ℕ → Disk → Disk → Type 0
MayWrite k old new = (new ≡ old) ⊎ ((bytes : List ℕ) × (new ≡ written old k bytes))

-- the disk after a sync
abbrev pub settled : Disk → Disk
settled disk = record { content = disk.content; synced = disk.content; unsynced = λ _. false; unit = disk.unit }

-- A sync that failed settled nothing: a stop may leave what it might have left before.
-- What a read gives may have changed within that, as where bytes that hadn't reached the disk were given up.
pub record SettlesNothing (old new : Disk) : Type 0 where
  pub synced : new.synced ≡ old.synced
  pub unsynced : new.unsynced ≡ old.unsynced
  pub unit : new.unit ≡ old.unit
