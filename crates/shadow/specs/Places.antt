-- An image of layout 3 as it is laid: each block in its first place.
use Rattle.std.specs.Prelude.{◌≡◌, ◌≢◌, ◌+◌, ◌<◌, ◌≤◌, ℕ, true, false, List, ◌++◌}
use Rattle.std.proofs.Common.{◌∙◌, arith}
use Rattle.sector_disk.specs.Disk.{Image}
use Rattle.shadow.specs.Formatted.{HasFirst, IsFilled, IsLeft}
use Rattle.journal.specs.PageLayout.{gate_at, record_at, place_at}
use Rattle.journal.specs.Tags.{tag_of, sum_below}

-- The first blocks, so many, stand in their first places, and this is the sum of their tags.
pub record HasPlaces (count : ℕ) (bytes : ℕ → List ℕ) (sum : List ℕ) (image : Image) : Type 0 where
  pub places : (b : ℕ) → b < count → HasFirst b (bytes b) image
  pub total : sum ≡ sum_below (λ b. tag_of b (bytes b)) count

-- So do all blocks, under this record.
pub record HasNamed (n : ℕ) (bytes : ℕ → List ℕ) (listing : List ℕ) (image : Image) : Type 0 where
  pub filled : IsFilled n bytes image
  pub named : image (record_at false) ≡ listing

-- All of it lies apart from the label.
pub places_apart : (n : ℕ) (bytes : ℕ → List ℕ) (listing : List ℕ) (old new : Image) → HasNamed n bytes listing old → ((k : ℕ) → 8 ≤ k → new k ≡ old k) → HasNamed n bytes listing new
places_apart n bytes listing old new has same = record {
  filled = record {
    gate = same gate_at (omega arith) ∙ has.filled.gate;
    spare = same (record_at true) (omega arith) ∙ has.filled.spare;
    named = same (record_at false) (omega arith) ∙ has.filled.named;
    places = λ b below.
        let first = has.filled.places b below in
        record {
          block = (λ t. same (place_at b false) (omega arith) t ++ same (place_at b false + 1) (omega arith) t) ∙ first.block;
          tag = same (place_at b false + 2) (omega arith) ∙ first.tag;
          other = same (place_at b true + 2) (omega arith) ∙ first.other;
        };
  };
  named = same (record_at false) (omega arith) ∙ has.named;
}

pub left_apart : (n k : ℕ) → IsLeft k → k ≢ 0
left_apart n k left = left.head 0 (omega arith)
