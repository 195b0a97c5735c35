-- What the calls of the block words have in common, over any device.
use Rattle.std.specs.Prelude.{◌≡◌, ◌⊎◌, ◌↔◌, ◌≤◌, ◌+◌, ◌*◌, ℕ, true, false, List, [], length, Result, IsOk, IsErr, IfErr, OnOk, IsErrOf, IsSome}
use Rattle.sector_disk.specs.declared.device.SectorDevice.{Ghosts}
use Rattle.journal.specs.declared.store.Store.{Store}
use Rattle.journal.specs.Costs.{each_reads, each_writes, more_writes, save_syncs, spill_reads, spill_writes}
use Rattle.journal.specs.Store.{Continues, DeviceBegins, DeviceReads, KeepsSaved, blocks_of, by_older, is_pending, pending_count, device_of, closed_of}
use Rattle.block_buffers.specs.Buffers.{Buffers, slot_of, updated_ones}
use Rattle.block_words.specs.declared.buffered_blocks.BlockFault.{BlockFault}
use Rattle.block_words.specs.declared.buffered_blocks.BlockFault.TheVariants.{NoBlock, NoBuffer, Device, Closed}
use Rattle.block_words.specs.declared.buffered_blocks.Blocks.{Blocks}
use Rattle.block_words.specs.Calls.{counted_after}
use Rattle.block_words.specs.Parts.{HasNoBuffer, ChangesAllOrNone, LeavesChanged}
use Rattle.block_words.specs.Uses.{changed_count}

module _ {D : Type 0} {G : Ghosts D} where
  -- The device counts the failure that the call tells, and no other.
  abbrev pub TellsFailures : {A : Type 0} → Result A BlockFault → Store D G → Store D G → Type 0
  TellsFailures result old new = G.failures (device_of new) ≡ counted_after result (G.failures (device_of old))

  -- A call asks for block u: where it has no buffer, the store has to read it, or to spill another one.
  pub record AsksFor {A : Type 0} (u : ℕ) (result : Result A BlockFault) (old new : Blocks D G) : Type 0 where
    -- there is no such block: this is said before all else
    pub no_block : IsErrOf result NoBlock ↔ (blocks_of old.store ≤ u)
    -- the block has no buffer, and the store is closed
    pub closed : IsErrOf result Closed ↔ (HasNoBuffer old u × (closed_of old.store ≡ true))
    -- the device failed once where the call says so, and else not
    pub failures : TellsFailures result old.store new.store
    pub no_buffer : ¬ IsErrOf result NoBuffer
    -- a block that has a buffer is given, and the store isn't called
    pub found : IsSome (slot_of old.buffers u) → IsOk result
    pub found_store : IsSome (slot_of old.buffers u) → new.store ≡ old.store
    -- a closed store isn't called
    pub closed_same : closed_of old.store ≡ true → new.store ≡ old.store
    -- a call that goes well leaves the store open, or closed, as it was
    pub opened : OnOk result (closed_of new.store ≡ closed_of old.store)
    -- a stop at any moment of the call leaves the saved blocks
    pub stops : KeepsSaved old.store new.store
    pub continues : Continues old.store new.store

  -- A call saves all that was changed: these buffers are those at its start, with their bytes in this space.
  pub record Saves (result : Result (Unit {0}) BlockFault) (old new : Store D G) (buffers : Buffers) (space : List ℕ) : Type 0 where
    pub faults : IfErr result (λ fault. (fault ≡ Device) ⊎ (fault ≡ Closed))
    -- the store was closed before, and isn't called
    pub closed : IsErrOf result Closed ↔ (closed_of old ≡ true)
    pub closed_same : closed_of old ≡ true → new ≡ old
    -- the device failed once where the call says so, and else not
    pub failures : TellsFailures result old new
    -- a fault closes the store
    pub shuts : IsErr result ↔ (closed_of new ≡ true)
    -- a stop at any moment of the call leaves the old blocks or all the new ones, and once it has returned the new ones alone
    pub stops : ChangesAllOrNone old new buffers space
    pub after : OnOk result (LeavesChanged old new buffers space)
    pub continues : Continues old new
    -- nothing is left to save
    pub pending : OnOk result ((u : ℕ) → is_pending new u ≡ false)
    -- what a spill takes for each updated buffer, and what a commit takes by the layout
    pub begins : DeviceBegins old new
        (spill_writes (by_older old) * length (updated_ones buffers) + (each_writes (by_older old) * changed_count old buffers + more_writes (by_older old)))
        (save_syncs (by_older old))
    pub reads : DeviceReads old new (spill_reads (by_older old) * length (updated_ones buffers) + each_reads (by_older old) * changed_count old buffers)
    -- with nothing to save the device isn't called
    pub nothing : updated_ones buffers ≡ [] → pending_count old ≡ 0 → device_of new ≡ device_of old
