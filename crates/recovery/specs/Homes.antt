-- An image of layout 2 as it is laid: each block in its home.
use Rattle.std.specs.Prelude.{◌≡◌, ◌≢◌, ◌+◌, ◌<◌, ℕ, List, take, drop, replicate}
use Rattle.std.proofs.Common.{◌∙◌, arith}
use Rattle.sector_disk.specs.Disk.{Image}
use Rattle.journal.specs.Layout.{home_at}
use Rattle.journal.specs.Steps.{InSlots}

-- The home of block b in an image of n blocks holds these bytes.
pub record HasHome (n b : ℕ) (bytes : List ℕ) (image : Image) : Type 0 where
  pub first : image (home_at n b) ≡ take 512 bytes
  pub second : image (home_at n b + 1) ≡ drop 512 bytes

-- Gate and record are zeros, and the first homes, so many, hold these bytes.
pub record HasHomesBelow (n count : ℕ) (bytes : ℕ → List ℕ) (image : Image) : Type 0 where
  pub gate : image 1 ≡ replicate 512 0
  pub listed : image 2 ≡ replicate 512 0
  pub homes : (b : ℕ) → b < count → HasHome n b (bytes b) image

-- Gate and record are zeros, and the homes hold these bytes.
abbrev pub HasHomesOf : ℕ → (ℕ → List ℕ) → Image → Type 0
HasHomesOf n bytes image = HasHomesBelow n n bytes image

-- All of it lies apart from the label.
pub homes_apart : (n : ℕ) (bytes : ℕ → List ℕ) (old new : Image) → HasHomesOf n bytes old → ((k : ℕ) → k ≢ 0 → new k ≡ old k) → HasHomesOf n bytes new
homes_apart n bytes old new has same = record {
  gate = same 1 (omega arith) ∙ has.gate;
  listed = same 2 (omega arith) ∙ has.listed;
  homes = λ b below. record {
    first = same (home_at n b) (omega arith) ∙ (has.homes b below).first;
    second = same (home_at n b + 1) (omega arith) ∙ (has.homes b below).second;
  };
}

pub slots_apart : (n k : ℕ) → InSlots n k → k ≢ 0
slots_apart n k slot zero = absurd (omega (arith, slot.0, zero))
