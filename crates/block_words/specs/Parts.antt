-- The parts of the blocks, and what a stop of a save leaves.
use Rattle.std.specs.Prelude.{◌≡◌, ◌⊎◌, ◌<◌, ◌≤◌, ℕ, false, List, length, None}
use Rattle.sector_disk.specs.Disk.{Image, MayLeave}
use Rattle.sector_disk.specs.declared.device.SectorDevice.{Ghosts}
use Rattle.journal.specs.declared.store.Store.{Store}
use Rattle.journal.specs.Calls.{StopsLeave}
use Rattle.journal.specs.Maps.{Maps}
use Rattle.journal.specs.Store.{MeansBy, StandsFor, blocks_of, device_of}
use Rattle.block_buffers.specs.Buffers.{Buffers, slot_of, updated_ones, IsValid}
use Rattle.block_words.specs.declared.buffered_blocks.Blocks.{Blocks}
use Rattle.block_words.specs.Words.{next_map}
use Rattle.block_words.specs.Uses.{changed_count}

module _ {D : Type 0} {G : Ghosts D} where
  abbrev pub store_of : Blocks D G → Store D G
  store_of blocks = blocks.store

  abbrev pub buffers_of : Blocks D G → Buffers
  buffers_of blocks = blocks.buffers

  -- Block u is there and has no buffer.
  abbrev pub HasNoBuffer : Blocks D G → ℕ → Type 0
  HasNoBuffer blocks u = (u < blocks_of blocks.store) × (slot_of blocks.buffers u ≡ None)

  -- A stop of an open store at any moment since the old state leaves the saved blocks, or all that were changed over them too.
  abbrev pub ChangesAllOrNone : Store D G → Store D G → Buffers → List ℕ → Type 0
  ChangesAllOrNone old new buffers space = (m : Maps) → StandsFor old m → m.closed ≡ false
      → StopsLeave G (device_of old) (device_of new) (λ image. MeansBy old m.saved image ⊎ MeansBy old (next_map buffers space m) image)

  -- A stop now leaves the blocks with all that were changed, and no others.
  abbrev pub LeavesChanged : Store D G → Store D G → Buffers → List ℕ → Type 0
  LeavesChanged old new buffers space = (m : Maps) → StandsFor old m
      → (image : Image) → MayLeave (G.disk (device_of new)) image → MeansBy new (next_map buffers space m) image

module _ {D : Type 0} (G : Ghosts D) where
  -- The list of buffers is valid at any time: at most four, no two with the same block or the same slot.
  abbrev pub BuffersAreValid : Type 0
  BuffersAreValid = (blocks : Blocks D G) → IsValid (buffers_of blocks)

  -- A save finds at most four updated buffers.
  abbrev pub FewAreUpdated : Type 0
  FewAreUpdated = (blocks : Blocks D G) → length (updated_ones (buffers_of blocks)) ≤ 4

  -- Each updated buffer is that of another changed block. So a save of n changed blocks begins 4n + 3 writes or fewer by layout 2, 3n + 2 by layout 3.
  abbrev pub UpdatedAreChanged : Type 0
  UpdatedAreChanged = (blocks : Blocks D G) → length (updated_ones (buffers_of blocks)) ≤ changed_count (store_of blocks) (buffers_of blocks)
