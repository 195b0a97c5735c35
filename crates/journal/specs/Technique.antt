-- Where each technique has blocks, what an image means by it, and what a save makes of a disk.
use Rattle.std.specs.Prelude.{◌≡◌, ◌≢◌, ℕ, ◌<◌, if◌then◌else◌, Bool, true, false, List, replicate}
use Rattle.sector_disk.specs.Disk.{Disk, Image}
use Rattle.sector_disk.specs.Pages.{InPage}
use Rattle.journal.specs.Images as journal
use Rattle.journal.specs.Images.{pair_at}
use Rattle.journal.specs.Layout as journal_layout
use Rattle.journal.specs.Layout.{listed}
use Rattle.journal.specs.PageImages as pages
use Rattle.journal.specs.PageLayout as pages_layout
use Rattle.journal.specs.PageSteps as pages_steps
use Rattle.journal.specs.Steps as journal_steps
use Rattle.journal.specs.declared.technique.NamedRecord.{NamedRecord}
use Rattle.journal.specs.declared.technique.Technique.{Technique}
use Rattle.journal.specs.declared.technique.Technique.TheVariants.{Journal, Pages}

-- the first sector of a block as it was saved, and of where a spill of it goes
abbrev pub saved_at : Technique → ℕ → ℕ → ℕ
saved_at Journal n b = journal_layout.home_at n b
saved_at (Pages named) n b = pages_layout.current_at named.listing b

abbrev pub spilled_at : Technique → ℕ → ℕ
spilled_at Journal b = journal_layout.slot_at b
spilled_at (Pages named) b = pages_layout.free_at named.listing b

-- where the latest text of a block is: as it was spilled last, or else as it was saved
abbrev pub latest_at : Technique → ℕ → List ℕ → ℕ → ℕ
latest_at technique n pending b = if listed pending b then spilled_at technique b else saved_at technique n b

-- the bytes of a block as it was saved, as it was spilled last, and the latest ones
abbrev pub saved_of : Technique → ℕ → Image → ℕ → List ℕ
saved_of technique n image b = pair_at image (saved_at technique n b)

abbrev pub spilled_of : Technique → Image → ℕ → List ℕ
spilled_of technique image b = pair_at image (spilled_at technique b)

abbrev pub latest_of : Technique → ℕ → List ℕ → Image → ℕ → List ℕ
latest_of technique n pending image b = if listed pending b then spilled_of technique image b else saved_of technique n image b

-- how many sectors an image of n blocks has
abbrev pub sectors_for : Technique → ℕ → ℕ
sectors_for Journal n = journal_layout.sectors_for n
sectors_for (Pages named) n = pages_layout.sectors_for n

-- whether it is that of layout 2
abbrev pub is_journal : Technique → Bool
is_journal Journal = true
is_journal (Pages named) = false

-- An image means these blocks.
abbrev pub Means : Technique → List (List ℕ) → Image → Type 0
Means Journal = journal.Means
Means (Pages named) = pages.Means

-- An image of n blocks that isn't damaged has these bytes in its blocks.
abbrev pub HasBlocks : Technique → ℕ → (ℕ → List ℕ) → Image → Type 0
HasBlocks Journal = journal_steps.HasBlocks
HasBlocks (Pages named) = pages_steps.HasBlocks

-- The disk is as the technique has it between two calls.
pub record IsSound (technique : Technique) (n : ℕ) (disk : Disk) : Type 0 where
  pub journal : technique ≡ Journal → journal_steps.IsSound n disk
  pub pages : (named : NamedRecord) → technique ≡ Pages named → pages_steps.IsSound n named.is_open named.listing disk

-- the sum in the record that it names; by layout 2 there is none, and zeros stand for it
abbrev pub record_sum : Technique → List ℕ
record_sum Journal = replicate 32 0
record_sum (Pages named) = pages_layout.sum_in named.listing

-- By layout 3 each pending block has its tag, and this is the sum of the record that a save would write.
pub record IsTagged (technique : Technique) (n : ℕ) (pending sum : List ℕ) (image : Image) : Type 0 where
  pub pages : (named : NamedRecord) → technique ≡ Pages named → pages_steps.HasSpilled n named.listing pending sum image

-- A list of blocks has block b too, and no other one more.
pub record HasOneMore (pending : List ℕ) (b : ℕ) (next : List ℕ) : Type 0 where
  pub here : listed next b ≡ true
  pub others : (a : ℕ) → a ≢ b → listed next a ≡ listed pending a

-- sector k may be spoiled by a spill of block b
abbrev pub InSpill : Technique → ℕ → ℕ → Type 0
InSpill Journal b k = journal_layout.InPair (journal_layout.slot_at b) k
InSpill (Pages named) b k = InPage (pages_layout.free_at named.listing b) k

-- sector k may be spoiled by spills of the first n blocks
abbrev pub InSpills : Technique → ℕ → ℕ → Type 0
InSpills Journal n k = journal_steps.InSlots n k
InSpills (Pages named) n k = pages_steps.InFree n named.listing k

-- What was latest is saved, by a technique that is as it is after a save, and the disk is as it has it.
pub record HasSaved (before after : Technique) (n : ℕ) (pending : List ℕ) (old new : Disk) : Type 0 where
  pub sound : IsSound after n new
  pub blocks : (b : ℕ) → b < n → saved_of after n new.content b ≡ latest_of before n pending old.content b
