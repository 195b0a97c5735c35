-- What an image means that was laid in its homes, and what a stop of its making leaves.
use Rattle.std.proofs.Common.{◌≡◌, ◌≢◌, ◌⊎◌, inl, inr, ⊎_elim, ℕ, zero, suc, ◌+◌, ◌*◌, ◌-◌, ◌/◌, ◌<◌, ◌≤◌, true, false, cond, List, ◌++◌, length, take, drop, replicate, Option, None, refl, sym, ◌∙◌, ap, subst, arith, take-append-drop}
use Rattle.std.specs.Prelude.{nat_le}
use Rattle.std.proofs.Math.Seq.{take-append_seam, drop-append_seam}
use Rattle.std.proofs.lemmas.Bool.{cases_eq}
use Rattle.std.proofs.lemmas.Bool.Decides.{nat_tests}
use Rattle.std.proofs.lemmas.List.{length-replicate, get_or-replicate}
use Rattle.sector_disk.specs.Disk.{Disk, Image, MayLeave, with_sector}
use Rattle.sector_disk.proofs.Moments.{sector_same, sector_other}
use Rattle.journal.specs.Images.{home_of, blocks_below, Means}
use Rattle.journal.specs.Layout.{fewest_blocks, most_blocks, label_of, home_at}
use Rattle.journal.specs.Maps.{block_in}
use Rattle.journal.proofs.Blocks.{at_below, length-below}
use Rattle.recovery.specs.Formatted as formatted
use Rattle.recovery.specs.Formatted.{blank_blocks, IsFilled}
use Rattle.recovery.specs.Found.{found_in, given_in, reads_to_give, HasHalves}
use Rattle.recovery.specs.Homes.{HasHome, HasHomesBelow, HasHomesOf}
use Rattle.recovery.specs.Making.{MayLeaveAround, IsMade, MakingLeaves, reads_below}
use Rattle.recovery.specs.Steps as steps
use Rattle.recovery.proofs.Formats.{unlabelled, filled_means}

-- One home more is written.
module _ (n b : ℕ) (bytes : List ℕ) (image : Image) where
  abbrev first_laid : Image
  first_laid = with_sector image (home_at n b) (take 512 bytes)

  abbrev both_laid : Image
  both_laid = with_sector first_laid (home_at n b + 1) (drop 512 bytes)

  laid_here : HasHome n b bytes both_laid
  laid_here = record {
    first = sector_other first_laid (home_at n b + 1) (home_at n b) (drop 512 bytes) (omega arith) ∙ sector_same image (home_at n b) (take 512 bytes);
    second = sector_same first_laid (home_at n b + 1) (drop 512 bytes);
  }

  laid_below : (k : ℕ) → k < home_at n b → both_laid k ≡ image k
  laid_below k low =
      sector_other first_laid (home_at n b + 1) k (drop 512 bytes) (omega (arith, low)) ∙ sector_other image (home_at n b) k (take 512 bytes) (omega (arith, low))

  pub homes_more : (given : ℕ → List ℕ) → bytes ≡ given b → HasHomesBelow n b given image → HasHomesBelow n (b + 1) given both_laid
  homes_more given is has = record {
    gate = laid_below 1 (omega arith) ∙ has.gate;
    listed = laid_below 2 (omega arith) ∙ has.listed;
    homes = λ a below. elim (cases_eq a b) [
      | inl same ↦ subst (λ i. HasHome n i (given i) both_laid) (sym same) (subst (λ l. HasHome n b l both_laid) is laid_here)
      | inr other ↦
          let lower : a < b = omega (arith, below, other) in
          record {
            first = laid_below (home_at n a) (omega (arith, lower)) ∙ (has.homes a lower).first;
            second = laid_below (home_at n a + 1) (omega (arith, lower)) ∙ (has.homes a lower).second;
          }
    ];
  }

-- Gate and record are cleared.
pub none_below : (n : ℕ) (given : ℕ → List ℕ) (image : Image) → HasHomesBelow n 0 given (with_sector (with_sector image 1 (replicate 512 0)) 2 (replicate 512 0))
none_below n given image = record { gate = refl; listed = refl; homes = λ b below. absurd (omega (arith, below)) }

-- Where each sector is a unit of its own, nothing lies around the label.
pub may_alone : (disk : Disk) → ((k : ℕ) → disk.unit k ≡ k) → (c : Image) → MayLeaveAround disk c → MayLeave disk c
may_alone disk own c around k clear = same (cases_eq k 0) ∙ around.may k clear
  where
    same : (k ≡ 0) ⊎ (k ≢ 0) → c k ≡ around.from k
    same (inl first) = ap c first ∙ around.label ∙ ap around.from (sym first)
    same (inr other) = around.rest k (λ unit. other (sym (own k) ∙ unit ∙ own 0))

-- Blocks with these bytes.
abbrev pub AreBytes : ℕ → (ℕ → List ℕ) → List (List ℕ) → Type 0
AreBytes n given blocks = (length blocks ≡ n) × ((b : ℕ) → b < n → block_in blocks b ≡ given b)

module _ (n : ℕ) (many : fewest_blocks ≤ n) (few : n ≤ most_blocks) (given : ℕ → List ℕ) (blocks : List (List ℕ)) (are : AreBytes n given blocks) where
  pub homes_means : (image : Image) → HasHomesOf n given image → image 0 ≡ label_of n → Means blocks image
  homes_means image has label = filled_means n many few image image
      (record { gate = has.gate; listed = has.listed; homes = λ k high low. refl }) blocks
      (are.0, λ b below. are.1 b below ∙ sym ((λ t. (has.homes b below).first t ++ (has.homes b below).second t) ∙ take-append-drop 512 (given b)))
      image label (λ k other. refl)

  pub making_homes : (disk : Disk) → ((k : ℕ) → disk.unit k ≡ k) → (c : Image) → MakingLeaves (label_of n) (HasHomesOf n given) disk c → formatted.MakingLeaves n blocks disk c
  making_homes disk own c = ⊎_elim
      (⊎_elim (λ bad. inl (unlabelled n c bad)) (λ good. inr (inl (homes_means c good.1 good.0))))
      (⊎_elim (λ bad. inl (unlabelled n c bad)) (λ was. inr (inr (record { many = many; few = few; label = was.0 }, may_alone disk own c was.1))))

-- Sector by sector.
module _ (n : ℕ) (given : ℕ → List ℕ) (bytes image : Image) (has : HasHomesOf n given image)
    (first : (b : ℕ) → b < n → take 512 (given b) ≡ bytes (home_at n b)) (second : (b : ℕ) → b < n → drop 512 (given b) ≡ bytes (home_at n b + 1)) where
  by_half : (k b : ℕ) → b < n → (k ≡ home_at n b) ⊎ (k ≡ home_at n b + 1) → image k ≡ bytes k
  by_half k b below (inl at) = ap image at ∙ (has.homes b below).first ∙ first b below ∙ ap bytes (sym at)
  by_half k b below (inr at) = ap image at ∙ (has.homes b below).second ∙ second b below ∙ ap bytes (sym at)

  either : (k b : ℕ) → 3 + 2 * n ≤ k → b ≡ (k - (3 + 2 * n)) / 2 → (k ≡ home_at n b) ⊎ (k ≡ home_at n b + 1)
  either k b high is = elim (cases_eq k (home_at n b)) [
    | inl at ↦ inl at
    | inr other ↦ inr (omega (arith, high, is, other))
  ]

  pub homes_filled : IsFilled n bytes image
  homes_filled = record {
    gate = has.gate;
    listed = has.listed;
    homes = λ k high low. by_half k ((k - (3 + 2 * n)) / 2) (omega (arith, high, low)) (either k ((k - (3 + 2 * n)) / 2) high refl);
  }

  pub homes_made : (disk : Disk) → disk.content ≡ image → disk.content 0 ≡ label_of n → ((k : ℕ) → disk.unsynced k ≡ false) → steps.IsMade n bytes disk
  homes_made disk is label synced = record {
    filled = record {
      gate = ap (λ (i : Image). i 1) is ∙ has.gate;
      listed = ap (λ (i : Image). i 2) is ∙ has.listed;
      homes = λ k high low. ap (λ (i : Image). i k) is ∙ homes_filled.homes k high low;
    };
    label = label;
    synced = synced;
  }

pub blanks_are : (n : ℕ) → AreBytes n (λ _. replicate 1024 32) (blank_blocks n)
blanks_are n = (length-replicate n _, λ b below. get_or-replicate n b _ _ below)

pub blank_made : (n : ℕ) (disk : Disk) → IsMade (label_of n) (HasHomesOf n (λ _. replicate 1024 32)) disk → steps.IsMade n (λ _. replicate 512 32) disk
blank_made n disk made = homes_made n (λ _. replicate 1024 32) (λ _. replicate 512 32) disk.content made.filled (λ b below. refl) (λ b below. refl) disk refl made.labelled made.synced

-- What is given of an image, below its number of blocks and above it.
module _ (n : ℕ) (listing : Option (List ℕ)) (image : Image) where
  pub given_below : (b : ℕ) → b < n → given_in n listing image b ≡ found_in n listing image b
  given_below b below =
      let inside : nat_le n b ≡ false = grind (arith, nat_tests) in
      ap (λ x. cond x (replicate 1024 32) (found_in n listing image b)) inside

  pub given_above : (b : ℕ) → n ≤ b → given_in n listing image b ≡ replicate 1024 32
  given_above b above =
      let outside : nat_le n b ≡ true = grind (arith, nat_tests) in
      ap (λ x. cond x (replicate 1024 32) (found_in n listing image b)) outside

-- The homes of an image without a save under way are given as they are.
module _ (n : ℕ) (image : Image) where
  pub homes_given : AreBytes n (given_in n None image) (blocks_below (home_of n image) n)
  homes_given = (length-below (home_of n image) n, λ b below. at_below (home_of n image) n b below ∙ sym (given_below n None image b below))

  pub halves_made : (disk : Disk) → HasHalves n None image n → IsMade (label_of n) (HasHomesOf n (given_in n None image)) disk → steps.IsMade n image disk
  halves_made disk halves made = homes_made n (given_in n None image) image disk.content made.filled
      (λ b below. ap (take 512) (given_below n None image b below) ∙ front (image (home_at n b)) (image (home_at n b + 1)) (halves b below below))
      (λ b below. ap (drop 512) (given_below n None image b below) ∙ back (image (home_at n b)) (image (home_at n b + 1)) (halves b below below))
      disk refl made.labelled made.synced
    where
      front : (xs ys : List ℕ) → length xs ≡ 512 → take 512 (xs ++ ys) ≡ xs
      front xs ys long = ap (λ k. take k (xs ++ ys)) (sym long) ∙ take-append_seam xs ys

      back : (xs ys : List ℕ) → length xs ≡ 512 → drop 512 (xs ++ ys) ≡ ys
      back xs ys long = ap (λ k. drop k (xs ++ ys)) (sym long) ∙ drop-append_seam xs ys

-- how many reads give the blocks
module _ (n : ℕ) where
  taken : (b : ℕ) → b < n → reads_to_give n b ≡ 2
  taken b below =
      let inside : nat_le n b ≡ false = grind (arith, nat_tests) in
      ap (λ x. cond x 0 2) inside

  untaken : (b : ℕ) → n ≤ b → reads_to_give n b ≡ 0
  untaken b above =
      let outside : nat_le n b ≡ true = grind (arith, nat_tests) in
      ap (λ x. cond x 0 2) outside

  reads_low : (k : ℕ) → k ≤ n → reads_below (reads_to_give n) k ≡ 2 * k
  reads_low zero within = refl
  reads_low (suc k) within = omega (arith, taken k (omega (arith, within)), reads_low k (omega (arith, within)))

  pub given_reads : (m : ℕ) → n ≤ m → reads_below (reads_to_give n) m ≡ 2 * n
  given_reads zero within =
      let none : n ≡ 0 = omega (arith, within) in
      omega (arith, none)
  given_reads (suc m) within = elim (cases_eq n (suc m)) [
    | inl same ↦ reads_low (suc m) (omega (arith, same)) ∙ ap (λ k. 2 * k) (sym same)
    | inr other ↦ omega (arith, untaken m (omega (arith, within, other)), given_reads m (omega (arith, within, other)))
  ]
