-- The five block words, and the text of a block. Each call that reaches the device, and each growth for a new buffer,
-- takes one answer from a list of what is answered; where the list is at its end, all goes well.
use Rattle.std.specs.Prelude.{◌≡◌, ℕ, ◌+◌, ◌++◌, ◌||◌, Bool, true, false, nat_lt, List, [], ◌∷◌, length, Option, Some, None, replicate}
use Rattle.data_space.specs.Space.{buffer_at, buffer_bytes, with_bytes}
use Rattle.journal.specs.Maps.{Maps, block_in, contents, spilled, committed, discarded, latest, shut, any_pending}
use Rattle.block_buffers.specs.declared.buffers.Assigned.{Assigned}
use Rattle.block_buffers.specs.Buffers.{Buffers, none_assigned, assigned, touched, oldest, slot_for, placed, with_mark, updated_ones, unmarked}
use Rattle.block_words.specs.declared.buffered_blocks.BlockFault.{BlockFault}
use Rattle.block_words.specs.declared.buffered_blocks.BlockFault.TheVariants.{NoBlock, NoBuffer, Device, Closed, Memory}

-- a call of the device, or the growth for a buffer, goes well or is refused
pub data Answer : Type 0 where
  Well Failed : Answer

-- a map that a save began to commit, and whether the save returned
pub record Save : Type 0 where
  pub map : List (List ℕ)
  pub returned : Bool

-- how many blocks may have been read and spilled at most, how many commits may have been begun, and of how many blocks in all
pub record Wear : Type 0 where
  pub reads : ℕ
  pub spills : ℕ
  pub commits : ℕ
  pub committed : ℕ

abbrev pub no_wear : Wear
no_wear = record { reads = 0; spills = 0; commits = 0; committed = 0 }

-- of one thing and then another
abbrev pub add_wear : Wear → Wear → Wear
add_wear wear more =
    record {
      reads = wear.reads + more.reads;
      spills = wear.spills + more.spills;
      commits = wear.commits + more.commits;
      committed = wear.committed + more.committed;
    }

-- store, buffers, data space, what the device will answer, how often it failed, its wear, and the saves so far
pub record Blocks : Type 0 where
  pub maps : Maps
  pub buffers : Buffers
  pub space : List ℕ
  pub answers : List Answer
  pub failures : ℕ
  pub wear : Wear
  pub saves : List Save

pub data BlockOutcome (A : Type 0) : Type 0 where
  Gives : A → Blocks → BlockOutcome A
  Fails : BlockFault → Blocks → BlockOutcome A

abbrev pub first_answer : List Answer → Answer
first_answer [] = Well
first_answer (answer ∷ answers) = answer

abbrev pub later_answers : List Answer → List Answer
later_answers [] = []
later_answers (answer ∷ answers) = answers

abbrev pub answered : {A : Type 0} → Answer → Blocks → (well failed : Blocks → BlockOutcome A) → BlockOutcome A
answered Well s well failed = well (record s { answers = later_answers s.answers })
answered Failed s well failed = failed (record s { answers = later_answers s.answers })

-- one call of the device
abbrev pub device_call : {A : Type 0} → Blocks → (well failed : Blocks → BlockOutcome A) → BlockOutcome A
device_call s well failed = answered (first_answer s.answers) s well (λ s. failed (record s { failures = s.failures + 1 }))

-- the device may begin so much more, whether or not it goes well
abbrev pub worn : Wear → Blocks → Blocks
worn more s = record s { wear = add_wear s.wear more }

abbrev pub with_closed : Blocks → Blocks
with_closed s = record s { maps = shut s.maps }

-- the bytes of an assigned buffer
abbrev pub bytes_of : Blocks → Assigned → List ℕ
bytes_of s x = buffer_bytes s.space x.slot

-- the present contents of a block: its buffer's bytes, else what is pending, else what is saved
abbrev pub view_of : Option Assigned → Blocks → ℕ → List ℕ
view_of (Some x) s b = bytes_of s x
view_of None s b = contents s.maps b

abbrev pub view : Blocks → ℕ → List ℕ
view s b = view_of (assigned s.buffers.list b) s b

-- a block is read
abbrev pub read_wear : Wear
read_wear = record { reads = 1; spills = 0; commits = 0; committed = 0 }

-- a block is spilled
abbrev pub spill_wear : Wear
spill_wear = record { reads = 0; spills = 1; commits = 0; committed = 0 }

-- a spill of one buffer
abbrev pub spill : {A : Type 0} → Assigned → Blocks → (Blocks → BlockOutcome A) → BlockOutcome A
spill x s go =
    device_call (worn spill_wear s)
    (λ s. go (record s { maps = spilled s.maps x.block (bytes_of s x) }))
    (λ s. Fails Device (with_closed s))

abbrev pub spill_if : {A : Type 0} → Bool → Assigned → Blocks → (Blocks → BlockOutcome A) → BlockOutcome A
spill_if true x s go = spill x s go
spill_if false x s go = go s

-- the buffer that the new one takes the place of is spilled, where it is updated
abbrev pub spill_oldest : {A : Type 0} → Option Assigned → Blocks → (Blocks → BlockOutcome A) → BlockOutcome A
spill_oldest None s go = go s
spill_oldest (Some x) s go = spill_if x.updated x s go

-- block b gets a buffer with these bytes
abbrev pub give_buffer : ℕ → List ℕ → Blocks → BlockOutcome ℕ
give_buffer b bytes s =
    let at = buffer_at (slot_for s.buffers) in
    Gives at (record s { buffers = placed s.buffers b; space = with_bytes s.space at bytes })

-- a block without a buffer: the oldest buffer is spilled, then there has to be memory
abbrev pub assign : ℕ → List ℕ → Blocks → BlockOutcome ℕ
assign b bytes s =
    spill_oldest (oldest s.buffers) s (λ s.
    answered (first_answer s.answers) s (give_buffer b bytes) (λ s. Fails Memory s))

abbrev pub open_store : {A : Type 0} → Bool → Blocks → (Blocks → BlockOutcome A) → BlockOutcome A
open_store true s go = Fails Closed s
open_store false s go = go s

-- a block that has a buffer comes to the front
abbrev pub with_buffer : Option Assigned → Blocks → (Blocks → BlockOutcome ℕ) → BlockOutcome ℕ
with_buffer (Some x) s go = Gives (buffer_at x.slot) (record s { buffers = touched s.buffers x })
with_buffer None s go = open_store s.maps.closed s go

-- what goes on only where this is a block
abbrev pub if_block : {A : Type 0} → Bool → Blocks → (Blocks → BlockOutcome A) → BlockOutcome A
if_block true s go = go s
if_block false s go = Fails NoBlock s

abbrev pub is_block : Blocks → ℕ → Bool
is_block s b = nat_lt b (length s.maps.saved)

-- BLOCK
abbrev pub block : ℕ → Blocks → BlockOutcome ℕ
block b s =
    if_block (is_block s b) s (λ s. with_buffer (assigned s.buffers.list b) s (λ s.
    device_call (worn read_wear s) (λ s. assign b (contents s.maps b) s) (λ s. Fails Device s)))

-- BUFFER
abbrev pub buffer : ℕ → Blocks → BlockOutcome ℕ
buffer b s =
    if_block (is_block s b) s (λ s. with_buffer (assigned s.buffers.list b) s (λ s. assign b (replicate 1024 32) s))

-- UPDATE
abbrev pub mark_current : Option ℕ → Blocks → BlockOutcome (Unit {0})
mark_current None s = Fails NoBuffer s
mark_current (Some b) s = Gives tt (record s { buffers = with_mark s.buffers b })

abbrev pub update : Blocks → BlockOutcome (Unit {0})
update s = mark_current s.buffers.current s

-- the maps once all these buffers are spilled
abbrev pub all_spilled : List Assigned → List ℕ → Maps → Maps
all_spilled [] space m = m
all_spilled (x ∷ xs) space m = all_spilled xs space (spilled m x.block (buffer_bytes space x.slot))

-- the map that a save commits
abbrev pub next_map : Buffers → List ℕ → Maps → List (List ℕ)
next_map buffers space m = latest (all_spilled (updated_ones buffers) space m)

abbrev pub spill_each : List Assigned → Blocks → (Blocks → BlockOutcome (Unit {0})) → BlockOutcome (Unit {0})
spill_each [] s go = go s
spill_each (x ∷ xs) s go = spill x s (λ s. spill_each xs s go)

-- how many blocks are pending
abbrev pub pending_number : List (Option (List ℕ)) → ℕ
pending_number [] = 0
pending_number (Some bytes ∷ pending) = pending_number pending + 1
pending_number (None ∷ pending) = pending_number pending

-- a block was changed and not saved: it was spilled, or is updated in its buffer
abbrev pub has_unsaved : Buffers → Maps → Bool
has_unsaved buffers m = nat_lt 0 (pending_number m.pending) || nat_lt 0 (length (updated_ones buffers))

-- so many blocks are committed
abbrev pub commit_wear : ℕ → Wear
commit_wear blocks = record { reads = 0; spills = 0; commits = 1; committed = blocks }

-- a commit of nothing makes no call of the device
abbrev pub commit : Bool → Blocks → (Blocks → BlockOutcome (Unit {0})) → BlockOutcome (Unit {0})
commit false s go = go (record s { maps = committed s.maps })
commit true s go =
    device_call (worn (commit_wear (pending_number s.maps.pending)) s)
    (λ s. go (record s { maps = committed s.maps }))
    (λ s. Fails Device (with_closed s))

abbrev pub returned : List Save → List Save
returned [] = []
returned (x ∷ []) = record x { returned = true } ∷ []
returned (x ∷ y ∷ saves) = x ∷ returned (y ∷ saves)

-- SAVE-BUFFERS and FLUSH: all updated buffers are spilled, all that is pending is committed, and then the list changes
abbrev pub save_and : (Buffers → Buffers) → Blocks → BlockOutcome (Unit {0})
save_and change s =
    open_store s.maps.closed s (λ s.
    spill_each (updated_ones s.buffers)
    (record s { saves = s.saves ++ record { map = next_map s.buffers s.space s.maps; returned = false } ∷ [] }) (λ s.
    commit (any_pending s.maps.pending) s (λ s.
    Gives tt (record s { buffers = change s.buffers; saves = returned s.saves }))))

abbrev pub save_buffers : Blocks → BlockOutcome (Unit {0})
save_buffers s = save_and unmarked s

abbrev pub flush : Blocks → BlockOutcome (Unit {0})
flush s = save_and (λ bs. none_assigned) s

-- all changes since the last save are taken back: nothing is put aside, and no block has a buffer
abbrev pub taken_back : Blocks → Blocks
taken_back s = record s { maps = discarded s.maps; buffers = none_assigned }

-- Then each block reads as it was saved last.
abbrev pub ReadsAsSaved : Type 0
ReadsAsSaved = (s : Blocks) (b : ℕ) → view (taken_back s) b ≡ block_in s.maps.saved b

-- the text of a block, as it stands, for a taking: neither the list nor its order changes. Where the store still keeps the
-- text that it read last, the block isn't read again; so what is counted here is no more than a bound.
abbrev pub source_of : Option Assigned → ℕ → Blocks → BlockOutcome (List ℕ)
source_of (Some x) b s = Gives (bytes_of s x) s
source_of None b s =
    open_store s.maps.closed s (λ s.
    device_call (worn read_wear s) (λ s. Gives (contents s.maps b) s) (λ s. Fails Device s))

abbrev pub source : ℕ → Blocks → BlockOutcome (List ℕ)
source b s = if_block (is_block s b) s (λ s. source_of (assigned s.buffers.list b) b s)
