-- What is read of an image of layout 3 while another program writes it: each sector at a moment of its own.
use Rattle.std.specs.Prelude.{◌≡◌, ◌⊎◌, ℕ, suc, ◌+◌, ◌<◌, ◌≤◌}
use Rattle.sector_disk.specs.Disk.{Image}
use Rattle.journal.specs.PageImages.{record_of}
use Rattle.journal.specs.PageLayout.{current_at, gate_at, gate_open, record_at}

-- what the image is at each moment, and a span of moments
module _ (image_at : ℕ → Image) (from to : ℕ) where
  -- Each sector is as it was at some moment of the span.
  abbrev pub IsReadIn : Image → Type 0
  IsReadIn seen = (k : ℕ) → (t : ℕ) × (from ≤ t) × (t ≤ to) × (seen k ≡ image_at t k)

  -- A sector is the same all that while.
  abbrev pub Stays : ℕ → Type 0
  Stays k = (t : ℕ) → from ≤ t → t ≤ to → image_at t k ≡ image_at from k

  -- As long as the gate stands, so do the record that it names and the places that count by it: spills go to free places, and a save
  -- writes the other record before it writes the gate.
  pub record Stands (n : ℕ) : Type 0 where
    pub gate : Stays gate_at
    pub named : Stays (record_at (gate_open (image_at from gate_at)))
    pub first : (b : ℕ) → b < n → Stays (current_at (record_of (image_at from)) b)
    pub second : (b : ℕ) → b < n → Stays (current_at (record_of (image_at from)) b + 1)

  -- A sector counts at the beginning: the gate, the record that it names, and the halves in the places that this record names.
  abbrev pub Counts : (n k : ℕ) → Type 0
  Counts n k = (k ≡ gate_at) ⊎ (k ≡ record_at (gate_open (image_at from gate_at)))
      ⊎ ((b : ℕ) × (b < n) × ((k ≡ current_at (record_of (image_at from)) b) ⊎ (k ≡ current_at (record_of (image_at from)) b + 1)))

  -- From each moment to the next one no sector that counts is written: what is written are free places and the other record.
  abbrev pub WritesFree : ℕ → Type 0
  WritesFree n = (t : ℕ) → from ≤ t → t < to → (k : ℕ) → Counts n k → image_at (suc t) k ≡ image_at t k
