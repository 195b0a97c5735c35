-- Under which record the blocks of an image of layout 3 are salvaged, of which gate or record are lost. Blanks stand for what couldn't be read.
use Rattle.std.specs.Prelude.{◌≡◌, ◌⊎◌, ℕ, ◌+◌, ◌==◌, ◌&&◌, not, nat_eq, nat_lt, if◌then◌else◌, Bool, true, false, List, MatchBool}
use Rattle.std.specs.Cmp.Lexicographic.{pointwise}
use Rattle.sector_disk.specs.Disk.{Image}
use Rattle.journal.specs.Layout.{count_below}
use Rattle.journal.specs.PageImages.{IsWhole, gate_fits, record_of}
use Rattle.journal.specs.PageLayout.{current_at, gate_at, gate_open, gate_sum, record_at, sum_in}
use Rattle.shadow.specs.Label.{blocks_in, is_size}
use Rattle.image_care.specs.Through.{blank_sector}

-- the sector of the record that the gate names
abbrev pub named_at : Image → ℕ
named_at image = record_at (gate_open (image gate_at))

-- the other record
abbrev pub other_record : Image → List ℕ
other_record image = image (record_at (not (gate_open (image gate_at))))

-- the image with this record in the place of the one that the gate names
abbrev pub under : List ℕ → Image → Image
under listing image = λ k. if k == named_at image then listing else image k

-- whether a sector is lost
abbrev pub is_lost : Image → ℕ → Bool
is_lost image k = pointwise nat_eq (image k) blank_sector

-- how many of the first n blocks are blank in the places that a record names
abbrev pub is_blank : List ℕ → Image → ℕ → Bool
is_blank listing image b = is_lost image (current_at listing b) && is_lost image (current_at listing b + 1)

abbrev pub blanks_under : ℕ → List ℕ → Image → ℕ
blanks_under n listing image = count_below (is_blank listing image) n

-- With the gate the choice between two whole records is lost, which are those of two saves in a row. Whether the other one is taken:
-- where fewer blocks are blank under it.
abbrev pub prefers_other : ℕ → Image → Bool
prefers_other n image =
    is_lost image gate_at && nat_lt (blanks_under n (other_record image) image) (blanks_under n (record_of image) image)

-- The record that the gate names is kept: the gate is of it, or the other one is no better.
abbrev pub IsKept : ℕ → Image → Type 0
IsKept n image = (gate_fits image ≡ true) ⊎ ¬ IsWhole n (under (other_record image) image)
    ⊎ (IsWhole n image × (prefers_other n image ≡ false))

-- This record is better, and under it no block is damaged: it has the sum that the gate has, or it is the other one.
pub record IsBetter (n : ℕ) (listing : List ℕ) (image : Image) : Type 0 where
  pub gate : gate_fits image ≡ false
  pub whole : IsWhole n (under listing image)
  pub which : (sum_in listing ≡ gate_sum (image gate_at))
      ⊎ ((listing ≡ other_record image) × (¬ IsWhole n image ⊎ (prefers_other n image ≡ true)))

-- As what an image of n blocks is salvaged: as it is, or under a better record.
abbrev pub IsMended : ℕ → (image seen : Image) → Type 0
IsMended n image seen = ((seen ≡ image) × IsKept n image)
    ⊎ ((listing : List ℕ) × (seen ≡ under listing image) × IsBetter n listing image)

-- The record that the gate of an image with so many sectors names is lost: the gate isn't of it, and the image is damaged under it.
abbrev pub HasLostRecord : (sectors : ℕ) → Image → Type 0
HasLostRecord sectors image = (is_size sectors ≡ true) × (gate_fits image ≡ false) × ¬ IsWhole (blocks_in sectors) image

-- as what an image with so many sectors is salvaged: one of layout 2 as it is
abbrev pub IsMendedBySize : (sectors : ℕ) → (image seen : Image) → Type 0
IsMendedBySize sectors image seen = MatchBool (is_size sectors) (IsMended (blocks_in sectors) image seen) (seen ≡ image)
