-- How an image is made: its parts are laid under another label than its own, and then the label is written. Of every layout.
use Rattle.std.specs.Prelude.{◌≡◌, ◌≢◌, ◌⊎◌, ◌+◌, ◌≤◌, ◌<◌, ℕ, zero, suc, false, IsTrue, List, replicate, slice_index, Result, OnOk, IfErr}
use Rattle.std.proofs.Common.{ap, arith}
use Rattle.sector_disk.specs.Disk.{Disk, Image, MayLeave}
use Rattle.sector_disk.specs.declared.device.SectorDevice.{Ghosts}
use Rattle.journal.specs.Calls.{StopsLeave, BeginsAtMost, ReadsAtMost, Passes, Proceeds}
use Rattle.journal.specs.Layout.{label_by}
use Rattle.journal.specs.Layouts.{asks, label_of, sectors_for}
use Rattle.journal.specs.declared.sizes.Layout.{Layout}
use Rattle.journal.specs.declared.sizes.Layout.TheVariants.{Journal, Pages}
use Rattle.journal.specs.Steps.{WritesOnly, IsAsSynced}
use Rattle.recovery.specs.Steps.{OnlyRead, WentWell, TellsFault}
use Rattle.recovery.specs.declared.fault.UpgradeFault.{UpgradeFault}

-- sector j lies in the unit of sector k
abbrev pub InUnit : Disk → ℕ → ℕ → Type 0
InUnit disk k j = disk.unit j ≡ disk.unit k

-- A stop may leave the image, but for the other sectors in the unit of the label. No reading looks at these where units lie within
-- pages, and where sectors are units there is none.
pub record MayLeaveAround (disk : Disk) (image : Image) : Type 0 where
  pub from : Image
  pub may : MayLeave disk from
  pub label : image 0 ≡ from 0
  pub rest : (k : ℕ) → ¬ InUnit disk 0 k → image k ≡ from k

-- A write of sector k leaves the label: by sectors each other one does, and else those past the page of the label.
abbrev pub IsApart : Layout → ℕ → Type 0
IsApart Journal k = k ≢ 0
IsApart Pages k = 8 ≤ k

-- Another label stands, and nothing is unsynced.
pub record IsUnlabelled (label : List ℕ) (disk : Disk) : Type 0 where
  pub other : disk.content 0 ≢ label
  pub synced : (k : ℕ) → disk.unsynced k ≡ false

-- All is filled under another label, and nothing is unsynced.
pub record IsReady (label : List ℕ) (is_filled : Image → Type 0) (disk : Disk) : Type 0 where
  pub filled : is_filled disk.content
  pub other : disk.content 0 ≢ label
  pub synced : (k : ℕ) → disk.unsynced k ≡ false

-- All is filled under the label, and nothing is unsynced.
pub record IsMade (label : List ℕ) (is_filled : Image → Type 0) (disk : Disk) : Type 0 where
  pub filled : is_filled disk.content
  pub labelled : disk.content 0 ≡ label
  pub synced : (k : ℕ) → disk.unsynced k ≡ false

-- Another label stands, or the image could be left before, but for the other sectors in the unit of the label.
abbrev pub TakenAway : List ℕ → Disk → Image → Type 0
TakenAway label disk image = (image 0 ≢ label) ⊎ ((image 0 ≡ label) × MayLeaveAround disk image)

-- Another label stands, or all but its unit is as it was.
abbrev pub Sealed : List ℕ → Disk → Image → Type 0
Sealed label disk image = (image 0 ≢ label) ⊎ ((image 0 ≡ label) × ((k : ℕ) → ¬ InUnit disk 0 k → image k ≡ disk.content k))

-- Another label stands, or all is filled under this one.
abbrev pub WrittenLeaves : List ℕ → (Image → Type 0) → Image → Type 0
WrittenLeaves label is_filled image = (image 0 ≢ label) ⊎ ((image 0 ≡ label) × is_filled image)

-- A stop while an image is made of this disk may leave the image: another label stands; or under this one all is filled, or the
-- image could be left before, but for the other sectors in the unit of the label.
abbrev pub MakingLeaves : List ℕ → (Image → Type 0) → Disk → Image → Type 0
MakingLeaves label is_filled disk image = WrittenLeaves label is_filled image ⊎ TakenAway label disk image

-- how many reads the first so many blocks take
abbrev pub reads_below : (ℕ → ℕ) → ℕ → ℕ
reads_below reads zero = 0
reads_below reads (suc b) = reads_below reads b + reads b

module _ {D : Type 0} (G : Ghosts D) where
  -- Calls that lay a part of an image apart from its label: they sync and read nothing, begin so many writes at most, and end at the
  -- first failure. A stop of them spoils no other sector.
  pub record Lays {T E : Type 0} (layout : Layout) (old new : D) (writes : ℕ) (result : Result T E) : Type 0 where
    pub only : IsTrue (asks G layout old) → WritesOnly (IsApart layout) (G.disk old) (G.disk new)
    pub stops : IsTrue (asks G layout old) → StopsLeave G old new (IsAsSynced (IsApart layout) (G.disk old))
    pub passes : Passes G old new result
    pub begins : BeginsAtMost G old new writes 0
    pub reads : ReadsAtMost G old new 0

module _ {A B : Type 0} (G : Ghosts A) (H : Ghosts B) where
  -- Calls that only read one device and work on another one, of which they begin so many at most. They end at the first failure, and
  -- tell whose it was.
  pub record Carries {T : Type 0} (from from' : A) (to to' : B) (writes syncs reads : ℕ) (result : Result T UpgradeFault) : Type 0 where
    pub source : OnlyRead G from from'
    pub passes : Proceeds H to to'
    pub begins : BeginsAtMost H to to' writes syncs
    pub few_reads : ReadsAtMost H to to' reads
    pub faults : IfErr result (TellsFault G H from from' to to')
    pub well : OnOk result (WentWell G H from from' to to')

-- No label is all zeros, and each image has a sector for its label.
pub labels_told : (version n : ℕ) → label_by version n ≢ replicate 512 0
labels_told version n same = absurd (omega (arith, ap (λ bytes. slice_index bytes 0) same))

pub label_told : (layout : Layout) (n : ℕ) → label_of layout n ≢ replicate 512 0
label_told Journal n = labels_told 2 n
label_told Pages n = labels_told 3 n

pub has_label : (layout : Layout) (n : ℕ) → 0 < sectors_for layout n
has_label Journal n = omega arith
has_label Pages n = omega arith
