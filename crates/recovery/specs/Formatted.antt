-- What is made of a disk by a format, or by an upgrade.
use Rattle.std.specs.Prelude.{◌≡◌, ◌⊎◌, ◌+◌, ◌*◌, ◌<◌, ◌≤◌, ℕ, List, replicate}
use Rattle.sector_disk.specs.Disk.{Disk, Image, MayLeave}
use Rattle.journal.specs.Layout.{HasGoodLabel}
use Rattle.journal.specs.Images.{Means}

-- n blocks of blanks
abbrev pub blank_blocks : ℕ → List (List ℕ)
blank_blocks n = replicate n (replicate 1024 32)

-- A stop while an image of these blocks is made of this disk may leave the image: it has no good label, or means these blocks,
-- or is one of the labelled images that could be left before.
abbrev pub MakingLeaves : ℕ → List (List ℕ) → Disk → Image → Type 0
MakingLeaves n blocks disk image = ¬ HasGoodLabel n image ⊎ Means blocks image ⊎ (HasGoodLabel n image × MayLeave disk image)

-- A stop of a format of this disk may leave the image.
abbrev pub FormatLeaves : ℕ → Disk → Image → Type 0
FormatLeaves n disk image = MakingLeaves n (blank_blocks n) disk image

-- Gate and record are zeros, and the home sectors hold these bytes.
pub record IsFilled (n : ℕ) (bytes image : Image) : Type 0 where
  pub gate : image 1 ≡ replicate 512 0
  pub listed : image 2 ≡ replicate 512 0
  pub homes : (k : ℕ) → 3 + 2 * n ≤ k → k < 3 + 4 * n → image k ≡ bytes k

-- Gate and record are zeros, and the homes are blanks.
abbrev pub IsBlank : ℕ → Image → Type 0
IsBlank n image = IsFilled n (λ _. replicate 512 32) image

-- The slots are as they were.
abbrev pub KeepsSlots : ℕ → Image → Image → Type 0
KeepsSlots n old new = (k : ℕ) → 3 ≤ k → k < 3 + 2 * n → new k ≡ old k
