-- How many calls of the device the library's calls begin at most.
use Rattle.std.specs.Prelude.{ℕ, ◌+◌, ◌*◌}
use Rattle.sector_disk.specs.declared.device.SectorDevice.{Ghosts}
use Rattle.journal.specs.Calls.{BeginsAtMost, ReadsAtMost}
use Rattle.block_words.specs.Calls.{reads_of, writes_of}
use Rattle.block_words.specs.Words.{Wear}
use Rattle.recovery.specs.Label.{is_size}
use Rattle.journal.specs.Costs.{each_reads, each_writes, more_writes, save_syncs, spill_reads, spill_writes}
use Rattle.stores.specs.Opened.{reads_for, syncs_for, writes_for}

-- A save of so many blocks, on a device of so many sectors: each block is spilled, and then all are committed.
abbrev pub writes_to_save : (sectors count : ℕ) → ℕ
writes_to_save sectors count = spill_writes (is_size sectors) * count + (each_writes (is_size sectors) * count + more_writes (is_size sectors))

abbrev pub syncs_to_save : (sectors : ℕ) → ℕ
syncs_to_save sectors = save_syncs (is_size sectors)

abbrev pub reads_to_save : (sectors count : ℕ) → ℕ
reads_to_save sectors count = spill_reads (is_size sectors) * count + each_reads (is_size sectors) * count

module _ {D : Type 0} (G : Ghosts D) where
  -- So many writes, syncs and reads were begun at most.
  pub record Begins (old new : D) (writes syncs reads : ℕ) : Type 0 where
    pub begins : BeginsAtMost G old new writes syncs
    pub reading : ReadsAtMost G old new reads

  -- An opening of the image that is on the old device, and calls beside it.
  abbrev pub OpeningAnd : (old new : D) (writes syncs reads : ℕ) → Type 0
  OpeningAnd old new writes syncs reads =
      let sectors = G.sector_count old in
      let image = (G.disk old).content in
      Begins old new (writes_for sectors image + writes) (syncs_for sectors image + syncs) (reads_for sectors image + reads)

  abbrev pub OpeningBegins : (old new : D) → Type 0
  OpeningBegins old new = OpeningAnd old new 0 0 0

  -- and a read of a block
  abbrev pub ReadingBegins : (old new : D) → Type 0
  ReadingBegins old new = OpeningAnd old new 0 0 2

  -- A save in an image that is open.
  abbrev pub SavesAtMost : (old new : D) (count : ℕ) → Type 0
  SavesAtMost old new count =
      let sectors = G.sector_count old in
      Begins old new (writes_to_save sectors count) (syncs_to_save sectors) (reads_to_save sectors count)

  -- An opening, and a save.
  abbrev pub SavingBegins : (old new : D) (count : ℕ) → Type 0
  SavingBegins old new count =
      let sectors = G.sector_count old in
      OpeningAnd old new (writes_to_save sectors count) (syncs_to_save sectors) (reads_to_save sectors count)

  -- An opening, and the block words of a session's lines.
  abbrev pub SessionBegins : (old new : D) → Wear → Type 0
  SessionBegins old new wear =
      let older = is_size (G.sector_count old) in
      OpeningAnd old new (writes_of older wear) (save_syncs older * wear.commits) (reads_of older wear)
