-- Within this crate and shadow: the states of a disk of layout 3 between the steps of a save. What a store promises doesn't speak of them.
use Rattle.std.specs.Prelude.{◌≡◌, ◌⊎◌, ℕ, ◌+◌, ◌<◌, Bool, true, false, not, if◌then◌else◌, List}
use Rattle.sector_disk.specs.Disk.{Disk, Image}
use Rattle.journal.specs.Layout.{listed}
use Rattle.journal.specs.PageLayout.{label_of, gate_at, gate_open, gate_bytes, record_at, current_at, free_at, sum_in, HasFlipped}
use Rattle.journal.specs.PageImages.{current_of, free_of, current_tag, free_tag, record_of}
use Rattle.sector_disk.specs.Pages.{InPage}
use Rattle.journal.specs.Tags.{tag_of, sum_below}

-- sector k belongs to what counts of a block below n: to the halves and the tag in its current place
abbrev pub InCurrent : ℕ → List ℕ → ℕ → Type 0
InCurrent n listing k = (b : ℕ) × (h : ℕ) × (b < n) × (h < 3) × (k ≡ current_at listing b + h)

-- sector k lies in the page of a free place of a block below n
abbrev pub InFree : ℕ → List ℕ → ℕ → Type 0
InFree n listing k = (b : ℕ) × (b < n) × InPage (free_at listing b) k

-- sector k lies in the page of the record that doesn't count, or in that of a free place
abbrev pub InSpare : ℕ → Bool → List ℕ → ℕ → Type 0
InSpare n is_open listing k = InPage (record_at (not is_open)) k ⊎ InFree n listing k

-- What counts under a record, beside the gate: sector k is the label, the record, or belongs to what counts of a block.
abbrev pub Counts : ℕ → Bool → List ℕ → ℕ → Type 0
Counts n is_open listing k = (k ≡ 0) ⊎ (k ≡ record_at is_open) ⊎ InCurrent n listing k

-- Nothing that counts is unsynced.
abbrev pub Spares : ℕ → Bool → List ℕ → Disk → Type 0
Spares n is_open listing disk = (k : ℕ) → Counts n is_open listing k → disk.unsynced k ≡ false

-- All that counts is the same.
abbrev pub Agrees : ℕ → Bool → List ℕ → Image → Image → Type 0
Agrees n is_open listing old new = (k : ℕ) → Counts n is_open listing k → new k ≡ old k

-- Under this record an image of n blocks has the good label, isn't damaged, and has these bytes in its blocks.
pub record HasBlocksUnder (n : ℕ) (is_open : Bool) (listing : List ℕ) (bytes : ℕ → List ℕ) (image : Image) : Type 0 where
  pub label : image 0 ≡ label_of n
  pub under : image (record_at is_open) ≡ listing
  pub blocks : (b : ℕ) → b < n → current_of listing image b ≡ bytes b
  pub tags : (b : ℕ) → b < n → current_tag listing image b ≡ tag_of b (bytes b)
  pub sum : sum_in listing ≡ sum_below (λ b. tag_of b (bytes b)) n

-- the same under the record that the gate names
abbrev pub HasBlocks : ℕ → (ℕ → List ℕ) → Image → Type 0
HasBlocks n bytes image = HasBlocksUnder n (gate_open (image gate_at)) (record_of image) bytes image

-- The gate names this record, under which the image isn't damaged, and nothing that counts is unsynced.
pub record IsSound (n : ℕ) (is_open : Bool) (listing : List ℕ) (disk : Disk) : Type 0 where
  pub gate : gate_open (disk.content gate_at) ≡ is_open
  pub settled : disk.unsynced gate_at ≡ false
  pub spares : Spares n is_open listing disk
  pub blocks : HasBlocksUnder n is_open listing (current_of listing disk.content) disk.content

-- what is pending over what is current
abbrev pub merged : List ℕ → List ℕ → Image → ℕ → List ℕ
merged listing pending image b = if listed pending b then free_of listing image b else current_of listing image b

-- the tag beside what is pending, or else the one that is current
abbrev pub merged_tag : List ℕ → List ℕ → Image → ℕ → List ℕ
merged_tag listing pending image b = if listed pending b then free_tag listing image b else current_tag listing image b

-- Each pending block below n has the tag of its bytes beside it, and this is the sum of these tags and of the current ones of the others.
pub record HasSpilled (n : ℕ) (listing pending sum : List ℕ) (image : Image) : Type 0 where
  pub tags : (b : ℕ) → b < n → listed pending b ≡ true → free_tag listing image b ≡ tag_of b (free_of listing image b)
  pub total : sum ≡ sum_below (merged_tag listing pending image) n

-- What was pending is current by the other record, which the gate names, and nothing is unsynced.
pub record HasSaved (n : ℕ) (is_open : Bool) (listing pending next : List ℕ) (old new : Disk) : Type 0 where
  pub sound : IsSound n (not is_open) next new
  pub flipped : HasFlipped n listing pending next
  pub blocks : (b : ℕ) → b < n → current_of next new.content b ≡ merged listing pending old.content b
  pub synced : (k : ℕ) → new.unsynced k ≡ false
  pub gate : new.content gate_at ≡ gate_bytes (not is_open) (sum_in next)
