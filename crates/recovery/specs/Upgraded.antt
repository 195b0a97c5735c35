-- What an upgrade refuses, and what a stop of it may leave of the old image. (Of the new one: MakingLeaves.)
use Rattle.std.specs.Prelude.{◌≡◌, ◌⊎◌, ◌==◌, ℕ, ◌+◌, ◌*◌, not, if◌then◌else◌, List, length, Option, Some, None}
use Rattle.sector_disk.specs.Disk.{Disk, Image, MayLeave}
use Rattle.journal.specs.Layout.{most_blocks_1, gate_open, count_listed}
use Rattle.journal.specs.Layout1.{HasGoodLabel1, Means1}
use Rattle.recovery.specs.Label.{blocks_in, is_size_within, label_refusal_by}
use Rattle.recovery.specs.Opened.{first_of}
use Rattle.recovery.specs.declared.fault.OpenFault.{OpenFault}
use Rattle.recovery.specs.declared.fault.OpenFault.TheVariants.{BadSize}
use Rattle.recovery.specs.declared.fault.UpgradeFault.{UpgradeFault}
use Rattle.recovery.specs.declared.fault.UpgradeFault.TheVariants.{Old, New}

abbrev pub of_old : Option OpenFault → Option UpgradeFault
of_old None = None
of_old (Some e) = Some (Old e)

-- the refusal of devices of these sizes, which no label tells
abbrev pub size_refusal : ℕ → ℕ → Option UpgradeFault
size_refusal old new =
    if not (is_size_within most_blocks_1 old) then Some (Old BadSize) else (if not (new == old) then Some (New BadSize) else None)

-- the refusal of an upgrade, by the sizes of both devices, and by the old one's label
abbrev pub upgrade_refusal : ℕ → ℕ → List ℕ → Option UpgradeFault
upgrade_refusal old new label = first_of (size_refusal old new) (of_old (label_refusal_by 1 (blocks_in old) label))

-- By layout 1 both images of n blocks mean the same, or neither has a good label.
abbrev pub MeansAsBefore : ℕ → Image → Image → Type 0
MeansAsBefore n old new =
    ((blocks : List (List ℕ)) × (length blocks ≡ n) × Means1 blocks old × Means1 blocks new) ⊎ (¬ HasGoodLabel1 n old × ¬ HasGoodLabel1 n new)

-- A stop of an upgrade of this disk may leave the image: it means by layout 1 what one means that a stop may leave now, or has
-- no good label where such a one may be left now.
pub record OldLeaves (n : ℕ) (disk : Disk) (image : Image) : Type 0 where
  pub from : Image
  pub may : MayLeave disk from
  pub means : MeansAsBefore n from image

-- how many reads of an image of layout 1 a recovery begins at most: of the label and the gate; and under an open gate of the
-- record too, and of each listed slot for its home
abbrev pub reads_for_1 : ℕ → Image → ℕ
reads_for_1 n image = if gate_open (image 1) then 2 * count_listed (image 2) n + 3 else 2
