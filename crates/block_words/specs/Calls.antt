-- What a call of a block word does, by the words and by what a stop may leave.
use Rattle.std.specs.Prelude.{◌≡◌, ℕ, ◌+◌, ◌++◌, Bool, true, false, List, [], ◌∷◌, Result, Ok, Err, ◌*◌}
use Rattle.sector_disk.specs.Counting.{count_up}
use Rattle.sector_disk.specs.Disk.{MayLeave}
use Rattle.sector_disk.specs.Moments.{LeavesOnly}
use Rattle.sector_disk.specs.declared.device.SectorDevice.{Ghosts}
use Rattle.journal.specs.declared.store.Store.{Store}
use Rattle.journal.specs.Calls.{BeginsAtMost, ReadsAtMost}
use Rattle.journal.specs.BySize.{Means}
use Rattle.journal.specs.Maps.{Maps}
use Rattle.journal.specs.Store.{StandsFor, device_of}
use Rattle.block_buffers.specs.Buffers.{Buffers}
use Rattle.block_words.specs.declared.buffered_blocks.BlockFault.{BlockFault}
use Rattle.block_words.specs.declared.buffered_blocks.BlockFault.TheVariants.{Device}
use Rattle.recovery.specs.Label.{is_size}
use Rattle.journal.specs.Costs.{each_reads, each_writes, more_writes, save_syncs, spill_reads, spill_writes}
use Rattle.block_words.specs.Words.{Answer, Save, Wear, add_wear, Blocks, BlockOutcome, Gives, Fails}
use Rattle.block_words.specs.Kept.{KeptFrom, last_map}

-- all that the block words read, at a beginning or an end of a call
abbrev pub state : Maps → Buffers → List ℕ → List Answer → ℕ → Wear → List Save → Blocks
state maps buffers space answers failures wear saves =
    record { maps = maps; buffers = buffers; space = space; answers = answers; failures = failures; wear = wear; saves = saves }

abbrev pub ended : {A : Type 0} → Result A BlockFault → Blocks → BlockOutcome A
ended (Ok value) s = Gives value s
ended (Err fault) s = Fails fault s

-- a device fault counts one failure
abbrev pub failures_after : {A : Type 0} → Result A BlockFault → ℕ → ℕ
failures_after (Err Device) failures = failures + 1
failures_after _ failures = failures

-- what the device's own count is after a call: one more where the call tells a failure
abbrev pub counted_after : {A : Type 0} → Result A BlockFault → ℕ → ℕ
counted_after (Err Device) count = count_up count
counted_after _ count = count

-- the save that a call began: none where it found the store closed
abbrev pub save_begun : Bool → List (List ℕ) → Bool → List Save
save_begun true map returned = []
save_begun false map returned = record { map = map; returned = returned } ∷ []

-- one word after another
abbrev pub and_then : {A B : Type 0} → BlockOutcome A → (A → Blocks → BlockOutcome B) → BlockOutcome B
and_then (Gives value s) go = go value s
and_then (Fails fault s) go = Fails fault s

-- The word runs so from these maps, buffers and bytes, whatever answers, failures, wear and saves are before and after.
pub record WordRuns {A : Type 0} (word : Blocks → BlockOutcome A) (result : Result A BlockFault) (wear : Wear) (made : List Save) (m m' : Maps) (buffers buffers' : Buffers) (space space' : List ℕ) : Type 0 where
  pub answers : List Answer
  pub same : (rest : List Answer) (failures : ℕ) (before : Wear) (saves : List Save)
      → word (state m buffers space (answers ++ rest) failures before saves)
      ≡ ended result (state m' buffers' space' rest (failures_after result failures) (add_wear before wear) (saves ++ made))

-- the writes and the reads of so many spills and of these commits, with the reads of the blocks that are read
abbrev pub writes_of : Bool → Wear → ℕ
writes_of older wear = spill_writes older * wear.spills + (each_writes older * wear.committed + more_writes older * wear.commits)

abbrev pub reads_of : Bool → Wear → ℕ
reads_of older wear = 2 * wear.reads + (spill_reads older * wear.spills + each_reads older * wear.committed)

module _ {D : Type 0} (G : Ghosts D) where
  -- The device began no more calls of each kind than these take by the layout that its size tells, which it keeps: two reads for each
  -- block that is read, and what a spill and a commit take.
  pub record WearsAtMost (old new : D) (wear : Wear) : Type 0 where
    pub sectors : G.sector_count new ≡ G.sector_count old
    pub begins : BeginsAtMost G old new (writes_of (is_size (G.sector_count old)) wear) (save_syncs (is_size (G.sector_count old)) * wear.commits)
    pub reads : ReadsAtMost G old new (reads_of (is_size (G.sector_count old)) wear)

  -- An open store keeps its saves from the call's start; a closed one adds nothing to what a stop may leave.
  abbrev pub CallLeaves : (closed : Bool) → (old new : D) → List (List ℕ) → List Save → Type 0
  CallLeaves true old new map made = LeavesOnly G.time G.left_since old new (MayLeave (G.disk old))
  CallLeaves false old new map made =
      KeptFrom (λ image map. Means (G.sector_count old) map image) (G.left_since new) (G.time new) map made (G.time old)

  -- The same, and the device keeps its size, which tells the layout.
  pub record CallKeeps (closed : Bool) (old new : D) (map : List (List ℕ)) (made : List Save) : Type 0 where
    pub sectors : G.sector_count new ≡ G.sector_count old
    pub leaves : CallLeaves closed old new map made

  -- A call by which old became new runs the word from these maps, and keeps the saves that it made.
  pub record CallRuns {A : Type 0} (word : Blocks → BlockOutcome A) (result : Result A BlockFault) (made : List Save) (m : Maps) (old new : Store D G) (buffers buffers' : Buffers) (space space' : List ℕ) : Type 0 where
    pub maps : Maps
    pub wear : Wear
    pub runs : WordRuns word result wear made m maps buffers buffers' space space'
    pub stands : StandsFor new maps
    pub kept : CallKeeps m.closed (device_of old) (device_of new) m.saved made
    pub wears : WearsAtMost (device_of old) (device_of new) wear
    -- a closed store stays closed
    pub shuts : m.closed ≡ true → maps.closed ≡ true
    -- an open store has the last map
    pub last : maps.closed ≡ false → maps.saved ≡ last_map m.saved made
