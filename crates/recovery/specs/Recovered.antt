-- A recovery of an image by a layout, which the version in its label tells.
use Rattle.std.specs.Prelude.{◌≡◌, ◌≢◌, ◌⊎◌, ℕ, ◌+◌, ◌*◌, ◌==◌, ◌||◌, if◌then◌else◌, Bool, IsTrue, Result, OnOk, IfErr, Option, None}
use Rattle.sector_disk.specs.Counting.{count_up}
use Rattle.sector_disk.specs.Disk.{Disk, Image, MayLeave}
use Rattle.sector_disk.specs.declared.device.SectorDevice.{Ghosts}
use Rattle.journal.specs.Calls.{BeginsAtMost}
use Rattle.journal.specs.Chain.{Redoes}
use Rattle.journal.specs.Images.{is_true_record}
use Rattle.journal.specs.Layout.{label_by, gate_open, count_listed}
use Rattle.journal.specs.Steps.{HasRecovered}
use Rattle.recovery.specs.Label.{label_refusal_by}
use Rattle.recovery.specs.Opened.{damage_refusal, first_of, gate_after}
use Rattle.recovery.specs.declared.fault.OpenFault.{OpenFault}
use Rattle.recovery.specs.declared.fault.OpenFault.TheVariants.{BadSize, Device}

-- whether the record is that of the slots; by layout 1 there is nothing to tell it by
abbrev pub has_good_record : ℕ → ℕ → Image → Bool
has_good_record version n image = (version == 1) || is_true_record n (image 2) image

-- So no image of layout 1 is refused for its record.
abbrev pub damage_refusal_by : ℕ → ℕ → Image → Option OpenFault
damage_refusal_by version n image = if version == 1 then None else damage_refusal n image

-- the refusal of an image of n blocks: that of its label, and then that of its record
abbrev pub recovery_refusal : ℕ → ℕ → Image → Option OpenFault
recovery_refusal version n image =
    if version == 1 then label_refusal_by version n (image 0) else first_of (label_refusal_by version n (image 0)) (damage_refusal n image)

-- A stop once the image was read may make this of it: nothing new, or, where it isn't refused, a part of what the record asks for.
abbrev pub FinishLeaves : ℕ → ℕ → Image → Image → Type 0
FinishLeaves version n old new = ((k : ℕ) → new k ≡ old k) ⊎ ((damage_refusal_by version n old ≡ None) × Redoes n old new)

-- A stop of a recovery of this disk may leave the image: one that a stop may leave now, or, under a good label, what is made of the
-- present one.
abbrev pub LeavesBy : ℕ → ℕ → Disk → Image → Type 0
LeavesBy version n disk image = MayLeave disk image
    ⊎ ((disk.content 0 ≡ label_by version n) × FinishLeaves version n disk.content image)

-- The image is recovered, and its gate is as it is to be.
pub record IsRecovered (n : ℕ) (old new : Disk) : Type 0 where
  pub recovered : HasRecovered n old new
  pub gate : new.content 1 ≡ gate_after (old.content 1)

-- how many reads of the record begin at most, and of each listed slot for its digest
abbrev pub record_reads : ℕ → ℕ → Image → ℕ
record_reads version n image = if version == 1 then 1 else 2 * count_listed (image 2) n + 1

-- how many reads of an image a recovery begins at most: of the label and the gate; and under an open gate of the record, and of
-- each listed slot for its home
abbrev pub reads_by : ℕ → ℕ → Image → ℕ
reads_by version n image = if gate_open (image 1) then record_reads version n image + 2 * count_listed (image 2) n + 2 else 2

-- What the answer of a step of a recovery tells: a device's fault is of the one call that failed. Any other is none of the size,
-- no call failed, and at most so many syncs and no write were begun.
pub record Tells {D T : Type 0} (G : Ghosts D) (old new : D) (syncs : ℕ) (result : Result T OpenFault) : Type 0 where
  pub sized : IfErr result (λ e. e ≢ BadSize)
  pub device : IfErr result (λ e. e ≡ Device → G.failures new ≡ count_up (G.failures old))
  pub refused : IfErr result (λ e. e ≢ Device → G.failures new ≡ G.failures old)
  pub well : OnOk result (G.failures new ≡ G.failures old)
  pub content : IsTrue (G.keeps_model old) → IfErr result (λ e. e ≢ Device → (G.disk new).content ≡ (G.disk old).content)
  pub unwritten : IfErr result (λ e. e ≢ Device → BeginsAtMost G old new 0 syncs)
