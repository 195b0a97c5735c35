-- Blocks of a store that were made those of a file.
use Rattle.std.specs.Prelude.{◌≡◌, ◌⊎◌, ◌<◌, ◌≤◌, ◌+◌, ◌-◌, ◌*◌, ℕ, false, List, length}
use Rattle.sector_disk.specs.declared.device.SectorDevice.{Ghosts}
use Rattle.journal.specs.declared.store.Store.{Store}
use Rattle.journal.specs.Calls.{StopsLeave}
use Rattle.journal.specs.Maps.{Maps, committed, latest, spilled}
use Rattle.journal.specs.Costs.{spill_reads, spill_writes}
use Rattle.journal.specs.Store.{DeviceBegins, DeviceReads, MeansBy, StandsFor, blocks_of, by_older, closed_of, device_of, pending_count}
use Rattle.terminal.specs.Done.{SavesBlocks}
use Rattle.terminal.specs.Findings.{AreSound, blocks_for, said_all}
use Rattle.terminal.specs.Transfer.{as_blocks, spilled_from}
use Rattle.command_line.specs.declared.orders.Form.{Form}

module _ {D : Type 0} {G : Ghosts D} where
  -- Bytes were spilled as a block, by a store that no fault has closed.
  pub record SpillsNext (b : ℕ) (bytes : List ℕ) (old new : Store D G) : Type 0 where
    pub opened : closed_of old ≡ false
    pub open_still : closed_of new ≡ false
    pub stands : (m : Maps) → StandsFor old m → StandsFor new (spilled m b bytes)
    pub few : pending_count new ≤ pending_count old + 1

  -- These blocks were spilled from block b on.
  pub record Spills (b : ℕ) (blocks : List (List ℕ)) (old new : Store D G) : Type 0 where
    pub shuts : closed_of new ≡ closed_of old
    pub stands : (m : Maps) → StandsFor old m → StandsFor new (spilled_from m b blocks)
    pub few : pending_count new ≤ pending_count old + length blocks
    pub well : G.failures (device_of new) ≡ G.failures (device_of old)
    pub begins : DeviceBegins old new (spill_writes (by_older old) * length blocks) 0
    pub reads : DeviceReads old new (spill_reads (by_older old) * length blocks)

  -- These blocks were made those from block b on, in one save, and no other block was changed.
  pub record Imports (b : ℕ) (blocks : List (List ℕ)) (old new : Store D G) : Type 0 where
    pub saved : (m : Maps) → StandsFor old m
        → StandsFor new (committed (spilled_from m b blocks)) × SavesBlocks G m b blocks (device_of old) (device_of new)
    pub begins : DeviceBegins old new (2 * pending_count old + 4 * length blocks + 3) 4
    pub reads : DeviceReads old new (4 * pending_count old + 4 * length blocks)

  -- The same of the blocks that such files say, of which nothing is refused.
  pub record ImportsSome (form : Form) (b : ℕ) (are_texts : List (List ℕ) → Type 0) (old new : Store D G) : Type 0 where
    pub files : List (List ℕ)
    pub each : are_texts files
    pub sound : AreSound form (blocks_of old - b) files
    pub below : b < blocks_of old
    pub there : b + blocks_for (length (said_all form files)) ≤ blocks_of old
    pub imports : Imports b (as_blocks (said_all form files)) old new

  -- A stop of an open store at any moment leaves the saved blocks, or these with all blocks that such files say.
  abbrev pub LeavesImported : (form : Form) (b : ℕ) (are_texts : List (List ℕ) → Type 0) (old new : Store D G) → Type 0
  LeavesImported form b are_texts old new = (m : Maps) → StandsFor old m → m.closed ≡ false
      → StopsLeave G (device_of old) (device_of new) (λ image. MeansBy old m.saved image
      ⊎ ((files : List (List ℕ)) × are_texts files × AreSound form (blocks_of old - b) files
      × MeansBy old (latest (spilled_from m b (as_blocks (said_all form files)))) image))
