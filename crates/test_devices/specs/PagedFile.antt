-- A file in memory whose sectors lie in pages of eight, as a system's file.
use Rattle.std.specs.Prelude.{◌/◌, ℕ, Bool, false, List, slice_index, slice_index_or}
use Rattle.sector_disk.specs.FileBytes.{FileBytes}

-- what these lists say of a file, where the marks stand for pages
abbrev pub bytes_in_pages : (content synced : List ℕ) (unsynced : List Bool) → FileBytes
bytes_in_pages content synced unsynced = record {
  content = λ p. slice_index content p;
  synced = λ p. slice_index synced p;
  unsynced = λ k. slice_index_or unsynced (k / 8) false;
  unit = λ k. k / 8;
}
