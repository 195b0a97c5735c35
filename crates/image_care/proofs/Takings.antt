-- What is taken of an image for a salvage, how many reads that takes, and what is noted of it.
use Rattle.std.proofs.Common.{◌≡◌, ◌≢◌, inl, inr, ℕ, zero, suc, ◌+◌, ◌*◌, ◌<◌, ◌≤◌, Bool, true, false, cond, List, replicate, refl, sym, ◌∙◌, ap, arith}
use Rattle.std.specs.Prelude.{◌&&◌, ◌||◌, not, nat_le}
use Rattle.std.proofs.lemmas.Bool.{cases_eq}
use Rattle.std.proofs.lemmas.Bool.Decides.{nat_tests}
use Rattle.sector_disk.specs.Disk.{Image}
use Rattle.journal.specs.Images.{blocks_below}
use Rattle.journal.specs.Layout.{most_blocks, count_below, listed}
use Rattle.journal.proofs.Blocks.{same_below}
use Rattle.journal.proofs.Copies.{zero_lists_none}
use Rattle.recovery.specs.Making.{reads_below}
use Rattle.image_care.specs.Standing.{is_damaged_under, is_other, is_nowhere, reads_to_take}
use Rattle.image_care.specs.Taken.{Notes, reads_by, reads_under, stands_by, stands_under, taken_by, taken_under}
use Rattle.image_care.specs.declared.pages.standing.Standing.{Standing}
use Rattle.image_care.specs.declared.pages.standing.Standing.TheVariants.{Current}
use Rattle.image_care.specs.declared.view.View.{View}

module _ (view : View) (image : Image) where
  pub inside : (b : ℕ) → b < view.blocks.number → nat_le view.blocks.number b ≡ false
  inside b below = grind (arith, nat_tests)

  -- The blocks that the image has are taken under its record.
  pub taken_below : (b : ℕ) → b < view.blocks.number → taken_by view image b ≡ taken_under view.listing view.blocks.number image b
  taken_below b below = ap (λ x. cond x (replicate 1024 32) (taken_under view.listing view.blocks.number image b)) (inside b below)

  pub stands_below : (b : ℕ) → b < view.blocks.number → stands_by view image b ≡ stands_under view.listing image b
  stands_below b below = ap (λ x. cond x Current (stands_under view.listing image b)) (inside b below)

  reads_at : (b : ℕ) → b < view.blocks.number → reads_by view image b ≡ reads_under view.listing image b
  reads_at b below = ap (λ x. cond x 0 (reads_under view.listing image b)) (inside b below)

  pub reads_taken : (k : ℕ) → k ≤ view.blocks.number → reads_below (reads_by view image) k ≡ reads_below (reads_under view.listing image) k
  reads_taken zero within = refl
  reads_taken (suc k) within =
      λ t. reads_taken k (omega (arith, within)) t + reads_at k (omega (arith, within)) t

  pub blocks_taken : blocks_below (taken_by view image) view.blocks.number
      ≡ blocks_below (taken_under view.listing view.blocks.number image) view.blocks.number
  blocks_taken = same_below (taken_by view image) (taken_under view.listing view.blocks.number image) view.blocks.number taken_below

-- How many reads that takes, by layout 2 and by layout 3.
pub journal_reads : (k : ℕ) → reads_below (λ b. 2) k ≡ 2 * k
journal_reads zero = refl
journal_reads (suc k) = omega (arith, journal_reads k)

module _ (listing : List ℕ) (image : Image) where
  by_damage : (damaged : Bool) (k count : ℕ) → (3 * k + 3 * count) + cond damaged 6 3 ≡ 3 * suc k + 3 * cond damaged (count + 1) count
  by_damage true k count = omega arith
  by_damage false k count = omega arith

  pub pages_reads : (k : ℕ) → reads_below (λ b. cond (is_damaged_under listing image b) 6 3) k ≡ reads_to_take k listing image
  pages_reads zero = refl
  pages_reads (suc k) =
      let damaged = is_damaged_under listing image in
      (λ t. pages_reads k t + cond (damaged k) 6 3) ∙ by_damage (damaged k) k (count_below damaged k)

-- One block more is noted in a list.
module _ (k : ℕ) (test : ℕ → Bool) (old new : List ℕ) where
  le_self : nat_le k k ≡ true
  le_self = grind (arith, nat_tests)

  le_next : nat_le (k + 1) k ≡ false
  le_next = grind (arith, nat_tests)

  le_other : (b : ℕ) → b ≢ k → nat_le (k + 1) b ≡ nat_le k b
  le_other b other = grind (arith, nat_tests)

  listed_more : listed new k ≡ (listed old k || test k) → ((a : ℕ) → a ≢ k → listed new a ≡ listed old a)
      → ((b : ℕ) → b < most_blocks → listed old b ≡ (not (nat_le k b) && test b))
      → (b : ℕ) → b < most_blocks → listed new b ≡ (not (nat_le (k + 1) b) && test b)
  listed_more here others before b below = elim (cases_eq b k) [
    | inl is ↦
        let clear : listed old k ≡ false = sym (ap (listed old) is) ∙ before b below ∙ (λ t. not (nat_le k (is t)) && test (is t)) ∙ (λ t. not (le_self t) && test k) in
        let now : (not (nat_le (k + 1) b) && test b) ≡ test k = (λ t. not (nat_le (k + 1) (is t)) && test (is t)) ∙ (λ t. not (le_next t) && test k) in
        ap (listed new) is ∙ here ∙ (λ t. clear t || test k) ∙ sym now
    | inr other ↦ others b other ∙ before b below ∙ sym (λ t. not (le_other b other t) && test b)
  ]

none_before : (b : ℕ) → nat_le 0 b ≡ true
none_before b = grind (arith, nat_tests)

pub first_notes : (standing : ℕ → Standing) → Notes 0 standing (replicate 512 0) (replicate 512 0)
first_notes standing = record {
  other = λ b below. zero_lists_none b ∙ sym (λ t. not (none_before b t) && is_other (standing b));
  nowhere = λ b below. zero_lists_none b ∙ sym (λ t. not (none_before b t) && is_nowhere (standing b));
}

pub noted : (k : ℕ) (found : Standing) (standing : ℕ → Standing) (others lost new_others new_lost : List ℕ) → found ≡ standing k → Notes k standing others lost
    → listed new_others k ≡ (listed others k || is_other found) → ((a : ℕ) → a ≢ k → listed new_others a ≡ listed others a)
    → listed new_lost k ≡ (listed lost k || is_nowhere found) → ((a : ℕ) → a ≢ k → listed new_lost a ≡ listed lost a)
    → Notes (k + 1) standing new_others new_lost
noted k found standing others lost new_others new_lost is notes here rest gone left = record {
  other = listed_more k (λ b. is_other (standing b)) others new_others (here ∙ (λ t. listed others k || is_other (is t))) rest notes.other;
  nowhere = listed_more k (λ b. is_nowhere (standing b)) lost new_lost (gone ∙ (λ t. listed lost k || is_nowhere (is t))) left notes.nowhere;
}
