-- What a stop leaves while an image is made.
use Rattle.std.proofs.Common.{◌≡◌, ◌≢◌, ◌⊎◌, inl, inr, ⊎_elim, ℕ, ◌+◌, ◌<◌, ◌≤◌, Bool, true, false, List, length, replicate, refl, sym, ◌∙◌, ap, subst, arith}
use Rattle.std.proofs.lemmas.Bool.{cases_lt}
use Rattle.std.proofs.lemmas.Bool.Decides.{Decides-eqb}
use Rattle.std.proofs.lemmas.List.{length-replicate, get_or-replicate}
use Rattle.std.proofs.lemmas.Slice.Eq.{slice_eq-Decides}
use Rattle.sector_disk.specs.Disk.{Disk, Image, MayLeave}
use Rattle.journal.specs.Images.{home_of, Means, meaning}
use Rattle.journal.specs.Layout.{fewest_blocks, most_blocks, HasGoodLabel, label_of, gate_open, home_at}
use Rattle.journal.specs.Maps.{block_in}
use Rattle.journal.proofs.Meaning.{shut_means, means_sized, pair_same}
use Rattle.recovery.specs.Formatted.{blank_blocks, MakingLeaves, IsFilled}
use Rattle.recovery.specs.Steps.{IsMade, TakenAway}

pub same_or_not : (xs ys : List ℕ) → (xs ≡ ys) ⊎ (xs ≢ ys)
same_or_not xs ys = decide _ (slice_eq-Decides Decides-eqb xs ys _ refl)
  where
    decide : (r : Bool) → (r ≡ true → xs ≡ ys) × (xs ≡ ys → r ≡ true) → (xs ≡ ys) ⊎ (xs ≢ ys)
    decide true d = inl (d.0 refl)
    decide false d = inr (λ same. absurd (cc (d.1 same)))

pub unlabelled : (n : ℕ) (c : Image) → c 0 ≢ label_of n → ¬ HasGoodLabel n c
unlabelled n c bad good = bad good.label

good_or_not : (n : ℕ) (c : Image) → HasGoodLabel n c ⊎ ¬ HasGoodLabel n c
good_or_not n c = ⊎_elim
    (λ same. ⊎_elim
    (λ low. inr (λ good. absurd (omega (arith, low, good.many))))
    (λ many. ⊎_elim (λ high. inr (λ good. absurd (omega (arith, high, good.few)))) (λ few. inl (record { many = many; few = few; label = same })) (cases_lt 3840 n))
    (cases_lt n 32))
    (λ bad. inr (unlabelled n c bad))
    (same_or_not (c 0) (label_of n))

module _ (n : ℕ) (disk : Disk) where
  -- what a stop may leave before the first write
  pub half_now : (c : Image) → MayLeave disk c → TakenAway n disk c
  half_now c may = ⊎_elim (λ good. inr (good, may)) (λ bad. inl bad) (good_or_not n c)

  pub making : (blocks : List (List ℕ)) (c : Image) → TakenAway n disk c → MakingLeaves n blocks disk c
  making blocks c = ⊎_elim (λ bad. inl bad) (λ was. inr (inr was))

-- Blocks whose bytes are those of these home sectors.
abbrev pub AreHomes : ℕ → Image → List (List ℕ) → Type 0
AreHomes n bytes blocks = (length blocks ≡ n) × ((b : ℕ) → b < n → block_in blocks b ≡ home_of n bytes b)

pub blank_homes : (n : ℕ) → AreHomes n (λ _. replicate 512 32) (blank_blocks n)
blank_homes n = (length-replicate n _, λ b below. get_or-replicate n b _ _ below)

-- The homes of a filled image are its blocks.
module _ (n : ℕ) (many : fewest_blocks ≤ n) (few : n ≤ most_blocks) (bytes image : Image) (filled : IsFilled n bytes image) where
  home : (b : ℕ) → b < n → home_of n image b ≡ home_of n bytes b
  home b below = pair_same bytes image (home_at n b) (filled.homes (home_at n b) (omega arith) (omega arith)) (filled.homes (home_at n b + 1) (omega arith) (omega arith))

  pub filled_means : (blocks : List (List ℕ)) → AreHomes n bytes blocks → (c : Image) → c 0 ≡ label_of n → ((k : ℕ) → k ≢ 0 → c k ≡ image k) → Means blocks c
  filled_means blocks are c label same = means_sized n (home_of n image) blocks c many few are.0 (λ b below. are.1 b below ∙ sym (home b below))
      (shut_means n (replicate 512 0) image c label (λ k high. same k (omega arith)) (ap gate_open (same 1 (omega arith) ∙ filled.gate)))

-- The image is made.
module _ (n : ℕ) (many : fewest_blocks ≤ n) (few : n ≤ most_blocks) (bytes : Image) (disk : Disk) (made : IsMade n bytes disk) where
  pub made_means : (blocks : List (List ℕ)) → AreHomes n bytes blocks → (c : Image) → ((k : ℕ) → c k ≡ disk.content k) → Means blocks c
  made_means blocks are c same = filled_means n many few bytes disk.content made.filled blocks are c (same 0 ∙ made.label) (λ k other. same k)

-- the blocks of an image that means n blank ones
pub blank_meaning : (n : ℕ) (c : Image) → Means (blank_blocks n) c → meaning n c ≡ blank_blocks n
blank_meaning n c means = subst (λ m. meaning m c ≡ blank_blocks n) (length-replicate n (replicate 1024 32)) means.meant
