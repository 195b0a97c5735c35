-- What an image means: the bytes of its blocks.
use Rattle.std.specs.Prelude.{◌≡◌, ℕ, ◌+◌, ◌<◌, Bool, List, length}
use Rattle.sector_disk.specs.Disk.{Image}
use Rattle.journal.specs.Images.{pair_at, blocks_below}
use Rattle.journal.specs.PageLayout.{HasGoodLabel, gate_at, gate_open, is_gate_of, record_at, current_at, free_at, sum_in, tag_in}
use Rattle.journal.specs.Tags.{tag_of, sum_below}

-- under a record, the bytes in the place of block b that it names, and in the free one
abbrev pub current_of : List ℕ → Image → ℕ → List ℕ
current_of listing image b = pair_at image (current_at listing b)

abbrev pub free_of : List ℕ → Image → ℕ → List ℕ
free_of listing image b = pair_at image (free_at listing b)

-- the tags in these places
abbrev pub current_tag : List ℕ → Image → ℕ → List ℕ
current_tag listing image b = tag_in (image (current_at listing b + 2))

abbrev pub free_tag : List ℕ → Image → ℕ → List ℕ
free_tag listing image b = tag_in (image (free_at listing b + 2))

-- the record that the gate names
abbrev pub record_of : Image → List ℕ
record_of image = image (record_at (gate_open (image gate_at)))

-- Whether the gate is of that record. What an image means doesn't hang on it: a stop while the gate is written leaves any sum there.
abbrev pub gate_fits : Image → Bool
gate_fits image = is_gate_of (image gate_at) (record_of image)

-- the bytes of block b
abbrev pub block_of : Image → ℕ → List ℕ
block_of image b = current_of (record_of image) image b

-- the blocks of an image of n blocks
abbrev pub meaning : ℕ → Image → List (List ℕ)
meaning n image = blocks_below (block_of image) n

-- Under a record the first n blocks aren't damaged: the tag of each is that of its bytes, and the record's sum that of these tags.
pub record IsWholeUnder (n : ℕ) (listing : List ℕ) (image : Image) : Type 0 where
  pub tags : (b : ℕ) → b < n → current_tag listing image b ≡ tag_of b (current_of listing image b)
  pub sum : sum_in listing ≡ sum_below (λ b. tag_of b (current_of listing image b)) n

-- An image of n blocks isn't damaged.
abbrev pub IsWhole : ℕ → Image → Type 0
IsWhole n image = IsWholeUnder n (record_of image) image

-- An image with a good label that isn't damaged means these blocks.
pub record Means (blocks : List (List ℕ)) (image : Image) : Type 0 where
  pub label : HasGoodLabel (length blocks) image
  pub whole : IsWhole (length blocks) image
  pub meant : meaning (length blocks) image ≡ blocks
