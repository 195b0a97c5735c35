-- Where the blocks of an image of layout 1 or 2 are found, and what a new image takes of them.
use Rattle.std.specs.Prelude.{◌≡◌, ℕ, ◌<◌, nat_le, if◌then◌else◌, List, length, replicate, Option, Some, None}
use Rattle.sector_disk.specs.Disk.{Image}
use Rattle.journal.specs.Layout.{listed, slot_at, home_at}
use Rattle.journal.specs.Images.{pair_at}

-- the first of the two sectors that hold block b of n: its slot where the record of a save that is under way lists it, else its home
abbrev pub place_in : ℕ → Option (List ℕ) → ℕ → ℕ
place_in n None b = home_at n b
place_in n (Some bytes) b = if listed bytes b then slot_at b else home_at n b

-- the bytes of block b of n
abbrev pub found_in : ℕ → Option (List ℕ) → Image → ℕ → List ℕ
found_in n listing image b = pair_at image (place_in n listing b)

-- the same, and blanks from n on
abbrev pub given_in : ℕ → Option (List ℕ) → Image → ℕ → List ℕ
given_in n listing image b = if nat_le n b then replicate 1024 32 else found_in n listing image b

-- how many reads give it
abbrev pub reads_to_give : ℕ → ℕ → ℕ
reads_to_give n b = if nat_le n b then 0 else 2

-- The first half of each of the first so many blocks is a whole sector.
abbrev pub HasHalves : ℕ → Option (List ℕ) → Image → ℕ → Type 0
HasHalves n listing image count = (b : ℕ) → b < count → b < n → length (image (place_in n listing b)) ≡ 512
