-- What an image of n blocks means by its layout, which image is refused, and what an opening of it leaves and costs.
use Rattle.std.specs.Prelude.{◌≡◌, ◌⊎◌, ◌≤◌, ℕ, ◌+◌, ◌*◌, if◌then◌else◌, Bool, List, IsTrue, Result, OnOk, IfOk, MatchResult, Option, Some, None}
use Rattle.sector_disk.specs.Disk.{Disk, Image, MayLeave}
use Rattle.sector_disk.specs.declared.device.SectorDevice.{Ghosts}
use Rattle.journal.specs.Calls.{StopsLeave, CostsAtMost, Proceeds}
use Rattle.journal.specs.Chain as journal
use Rattle.journal.specs.Clean as journal_clean
use Rattle.journal.specs.Images as journal_images
use Rattle.journal.specs.Layout.{fewest_blocks, most_blocks}
use Rattle.journal.specs.Layouts.{asks, is_journal, sectors_for}
use Rattle.journal.specs.PageClean as pages_clean
use Rattle.journal.specs.PageImages as pages_images
use Rattle.journal.specs.Sizes.{is_size}
use Rattle.journal.specs.declared.sizes.Layout.{Layout}
use Rattle.journal.specs.declared.sizes.Layout.TheVariants.{Journal, Pages}
use Rattle.recovery.specs.Label.{label_refusal_by}
use Rattle.recovery.specs.Opened as journal_opened
use Rattle.recovery.specs.Opened.{damage_refusal, first_of}
use Rattle.recovery.specs.Recovered.{Tells}
use Rattle.recovery.specs.declared.fault.OpenFault.{OpenFault}
use Rattle.recovery.specs.declared.fault.OpenFault.TheVariants.{Damaged, Device}
use Rattle.shadow.specs.Opened as pages_opened
use Rattle.stores.specs.Damage.{is_whole}

-- the version that a label tells
abbrev pub version_of : Layout → ℕ
version_of Journal = 2
version_of Pages = 3

abbrev pub meaning_by : Layout → ℕ → Image → List (List ℕ)
meaning_by Journal n image = journal_images.meaning n image
meaning_by Pages n image = pages_images.meaning n image

abbrev pub HasMeaningBy : Layout → ℕ → Image → Type 0
HasMeaningBy Journal n image = journal.HasMeaning n image
HasMeaningBy Pages n image = pages_opened.HasMeaning n image

-- the refusal of an image with the good label
abbrev pub damage_by : Layout → ℕ → Image → Option OpenFault
damage_by Journal n image = damage_refusal n image
damage_by Pages n image = if is_whole n image then None else Some Damaged

-- the refusal of an image: that of its label, and then that of damage
abbrev pub refusal_by : Layout → ℕ → Image → Option OpenFault
refusal_by layout n image = first_of (label_refusal_by (version_of layout) n (image 0)) (damage_by layout n image)

-- A store begins with such a disk: nothing is left to do, and by layout 3 the gate names this record.
abbrev pub IsReadyBy : Layout → (n : ℕ) (is_open : Bool) (listing : List ℕ) → Disk → Type 0
IsReadyBy Journal n is_open listing disk = journal_clean.IsClean n disk
IsReadyBy Pages n is_open listing disk = pages_clean.IsClean n is_open listing disk

-- A stop of an opening may leave the image.
abbrev pub LeavesBy : Layout → ℕ → Disk → Image → Type 0
LeavesBy Journal n disk image = journal_opened.RecoveryLeaves n disk image
LeavesBy Pages n disk image = MayLeave disk image

-- how many writes, syncs and reads an opening begins at most
abbrev pub writes_by : Layout → ℕ → Image → ℕ
writes_by Journal n image = journal_opened.writes_for n image
writes_by Pages n image = 0

abbrev pub syncs_by : Layout → ℕ → Image → ℕ
syncs_by Journal n image = journal_opened.syncs_for image
syncs_by Pages n image = 1

abbrev pub reads_by : Layout → ℕ → Image → ℕ
reads_by Journal n image = journal_opened.reads_for n image
reads_by Pages n image = 3 * n + 3

-- So many sectors are those of an image of n blocks.
pub record IsSized (layout : Layout) (n sectors : ℕ) : Type 0 where
  pub many : fewest_blocks ≤ n
  pub few : n ≤ most_blocks
  pub told : is_size sectors ≡ is_journal layout
  pub size : sectors ≡ sectors_for layout n

-- What an opening of an image of n blocks does on a device. It answers whether the gate is open, and has the record that the gate names
-- in `listing`.
pub record Opens {D : Type 0} (G : Ghosts D) (layout : Layout) (n : ℕ) (old new : D) (listing : List ℕ) (result : Result Bool OpenFault) : Type 0 where
  -- A store may be made over it, of the blocks that the image meant.
  pub ready : IsTrue (asks G layout old) → IfOk result (λ is_open. IsReadyBy layout n is_open listing (G.disk new))
  pub same : IsTrue (asks G layout old) → OnOk result (meaning_by layout n (G.disk new).content ≡ meaning_by layout n (G.disk old).content)
  -- What is made ready has a meaning, and each refusal tells the first test that the image fails.
  pub meaning : IsTrue (asks G layout old) → OnOk result (HasMeaningBy layout n (G.disk old).content)
  pub exact : IsTrue (asks G layout old) → MatchResult result
      (λ _. refusal_by layout n (G.disk old).content ≡ None)
      (λ e. (e ≡ Device) ⊎ (refusal_by layout n (G.disk old).content ≡ Some e))
  pub tells : Tells G old new 1 result
  -- What a stop at any moment leaves.
  pub stops : IsTrue (asks G layout old) → StopsLeave G old new (LeavesBy layout n (G.disk old))
  pub passes : Proceeds G old new
  pub costs : IsTrue (asks G layout old)
      → CostsAtMost G old new (writes_by layout n (G.disk old).content) (syncs_by layout n (G.disk old).content) (reads_by layout n (G.disk old).content)
