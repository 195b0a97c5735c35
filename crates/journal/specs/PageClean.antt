-- A disk on which a store begins.
use Rattle.std.specs.Prelude.{◌≡◌, ℕ, false, Bool, List}
use Rattle.sector_disk.specs.Disk.{Disk}
use Rattle.journal.specs.PageLayout.{HasGoodLabel, gate_at, gate_open}
use Rattle.journal.specs.PageImages.{record_of, IsWhole}

-- An image of n blocks with a good label that isn't damaged, whose gate names this record, and nothing is unsynced.
pub record IsClean (n : ℕ) (is_open : Bool) (listing : List ℕ) (disk : Disk) : Type 0 where
  pub label : HasGoodLabel n disk.content
  pub gate : gate_open (disk.content gate_at) ≡ is_open
  pub named : record_of disk.content ≡ listing
  pub whole : IsWhole n disk.content
  pub synced : (k : ℕ) → disk.unsynced k ≡ false
