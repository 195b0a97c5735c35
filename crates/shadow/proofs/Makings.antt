-- What an image means that was laid in first places, and what a stop of its making leaves.
use Rattle.std.proofs.Common.{◌≡◌, inl, inr, ⊎_elim, ℕ, ◌<◌, ◌≤◌, false, List, ◌++◌, replicate, Result, Ok, Err, Some, refl, sym, ◌∙◌, ap, subst}
use Rattle.std.specs.Prelude.{OnOk}
use Rattle.sector_disk.specs.Disk.{Disk, Image}
use Rattle.sector_disk.specs.declared.device.SectorDevice.{Ghosts}
use Rattle.journal.specs.Layout.{fewest_blocks, most_blocks}
use Rattle.journal.proofs.Blocks.{at_below, length-below}
use Rattle.recovery.specs.Found.{given_in}
use Rattle.recovery.specs.Making as making
use Rattle.recovery.proofs.HomesMade.{given_below}
use Rattle.journal.specs.Calls.{BeginsAtMost, ReadsAtMost, Passes}
use Rattle.journal.specs.declared.sizes.Layout.TheVariants as layouts
use Rattle.shadow.specs.Formatted.{MakingLeaves, HasFirst, IsFilled, IsMade, PastLabel, Spoils}
use Rattle.journal.specs.PageLayout.{label_of, gate_bytes}
use Rattle.shadow.specs.Places.{HasNamed}
use Rattle.journal.specs.Tags.{tag_of}
use Rattle.shadow.specs.Upgraded.{found_of, found_blocks}
use Rattle.shadow.proofs.Formats.{AreBlocks, unlabelled, filled_means}
use Rattle.journal.proofs.Sums.{same_sum}

module _ (n : ℕ) (many : fewest_blocks ≤ n) (few : n ≤ most_blocks) (given : ℕ → List ℕ) (blocks : List (List ℕ)) (are : AreBlocks n given blocks) where
  pub making_places : (listing : List ℕ) (disk : Disk) (c : Image) → making.MakingLeaves (label_of n) (HasNamed n given listing) disk c → MakingLeaves n blocks disk c
  making_places listing disk c = ⊎_elim
      (⊎_elim (λ bad. inl (unlabelled n c bad)) (λ good. inr (inl (filled_means n many few given c good.1.filled c good.0 (λ k past. refl) blocks are))))
      (⊎_elim (λ bad. inl (unlabelled n c bad)) (λ was. inr (inr (record { many = many; few = few; label = was.0 }, was.1))))

pub places_made : (n : ℕ) (given : ℕ → List ℕ) (listing : List ℕ) (disk : Disk) → making.IsMade (label_of n) (HasNamed n given listing) disk → IsMade n given disk
places_made n given listing disk made = record { filled = made.filled.filled; label = made.labelled; synced = made.synced }

-- Only the blocks below its number count of what fills an image.
module _ (n : ℕ) (f g : ℕ → List ℕ) (same : (b : ℕ) → b < n → f b ≡ g b) where
  pub filled_as : (image : Image) → IsFilled n f image → IsFilled n g image
  filled_as image filled = record {
    gate = filled.gate ∙ ap (gate_bytes false) (same_sum (λ b. tag_of b (g b)) (λ b. tag_of b (f b)) n (λ b below. ap (tag_of b) (same b below)));
    spare = filled.spare;
    named = filled.named ∙ ap (λ s. replicate 480 0 ++ s) (same_sum (λ b. tag_of b (g b)) (λ b. tag_of b (f b)) n (λ b below. ap (tag_of b) (same b below)));
    places = λ b below. subst (λ bytes. HasFirst b bytes image) (same b below) (filled.places b below);
  }

  pub made_as : (disk : Disk) → IsMade n f disk → IsMade n g disk
  made_as disk made = record { filled = filled_as disk.content made.filled; label = made.label; synced = made.synced }

-- The blocks of an older image are given as they are found.
module _ (n : ℕ) (listing : List ℕ) (image : Image) where
  pub given_found : (b : ℕ) → b < n → given_in n (Some listing) image b ≡ found_of n listing image b
  given_found b below = given_below n (Some listing) image b below

  pub are_given : AreBlocks n (given_in n (Some listing) image) (found_blocks n listing image)
  are_given = (length-below (found_of n listing image) n, λ b below. at_below (found_of n listing image) n b below ∙ sym (given_found b below))

pub all_ok : {T E : Type 0} (r : Result T E) {P Q R S : Type 0} → (P → Q → R → S) → OnOk r P → OnOk r Q → OnOk r R → OnOk r S
all_ok (Ok x) f p q s = f p q s
all_ok (Err e) f p q s = p

-- What is written past the label's page is laid apart from the label.
pub lays_of : {D T E : Type 0} (device : Ghosts D) {result : Result T E} (a b : D) (writes : ℕ) → Spoils device PastLabel a b → Passes device a b result
    → BeginsAtMost device a b writes 0 → ReadsAtMost device a b 0 → making.Lays device layouts.Pages a b writes result
lays_of device a b writes spoils passes begins reads = record {
  only = spoils.only;
  stops = spoils.stops;
  passes = passes;
  begins = begins;
  reads = reads;
}
