-- A file in memory as a system's file.
use Rattle.std.specs.Prelude.{◌≡◌, ◌<◌, ◌+◌, ◌*◌, ℕ, Bool, false, List, slice_index, slice_index_or}
use Rattle.sector_disk.specs.FileBytes.{FileBytes}

-- what these lists say of a file
abbrev pub bytes_in : (content synced : List ℕ) (unsynced : List Bool) → FileBytes
bytes_in content synced unsynced = record {
  content = λ p. slice_index content p;
  synced = λ p. slice_index synced p;
  unsynced = λ k. slice_index_or unsynced k false;
  unit = λ k. k;
}

-- Sectors that aren't unsynced hold what they held at the last sync.
pub record IsAsSyncedElsewhere (file : FileBytes) : Type 0 where
  pub each : (k i : ℕ) → i < 512 → file.unsynced k ≡ false → file.content (512 * k + i) ≡ file.synced (512 * k + i)
