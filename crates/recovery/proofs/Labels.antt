-- A label that passes each test is the good one.
use Rattle.std.proofs.Common.{◌≡◌, ℕ, zero, suc, ◌+◌, ◌*◌, ◌/◌, ◌%◌, ◌<◌, ◌≤◌, Bool, true, false, cond, List, [], ◌∷◌, ◌++◌, length, get_or, drop, replicate, Some, None, refl, ◌∙◌, ap, arith, length-drop, codes, nat_eq}
use Rattle.std.specs.Prelude.{◌&&◌, ◌==◌, not, slice_index, nat_le}
use Rattle.std.specs.List.{starts_with, list_all}
use Rattle.std.proofs.lemmas.Bool.{eqb-true, eq-eqb}
use Rattle.std.proofs.lemmas.Bool.Decides.{Decides-eqb, nat_tests}
use Rattle.std.proofs.lemmas.Slice.Eq.{starts_is}
use Rattle.std.proofs.lemmas.List.{drop_more}
use Rattle.journal.specs.Layout.{label_of, label_by, sectors_for}
use Rattle.recovery.specs.Label.{is_named, number_at, label_refusal, label_refusal_by, refusal, blocks_in, is_size}
use Rattle.recovery.specs.declared.fault.OpenFault.TheVariants.{BadSize, NoLabel, OtherVersion, WrongCount}

both : (a b : Bool) → (a && b) ≡ true → (a ≡ true) × (b ≡ true)
both true b is = (refl, is)
both false b is = cc

-- no test has failed
passed : (named version count : Bool)
    → cond (not named) (Some NoLabel) (cond (not version) (Some OtherVersion) (cond (not count) (Some WrongCount) None)) ≡ None
    → (named ≡ true) × (version ≡ true) × (count ≡ true)
passed true true true none = (refl, refl, refl)
passed true true false none = cc
passed true false count none = cc
passed false version count none = cc

all_zero : (bytes : List ℕ) (n : ℕ) → length bytes ≡ n → list_all (λ byte. byte == 0) bytes ≡ true → bytes ≡ replicate n 0
all_zero [] zero long all = refl
all_zero [] (suc n) long all = absurd (omega arith)
all_zero (x ∷ bytes) zero long all = absurd (omega arith)
all_zero (x ∷ bytes) (suc n) long all =
    let parts = both (x == 0) (list_all (λ byte. byte == 0) bytes) all in
    λ i. eqb-true x 0 parts.0 i ∷ all_zero bytes n (omega arith) parts.1 i

low_high : (low high n : ℕ) → low < 256 → high < 256 → low + 256 * high ≡ n → (low ≡ n % 256) × (high ≡ n / 256 % 256)
low_high low high n a b is = (omega arith, omega arith)

pub good_label : (version n : ℕ) (label : List ℕ) → length label ≡ 512 → ((i : ℕ) → get_or label i 0 < 256) → label_refusal_by version n label ≡ None → label ≡ label_by version n
good_label number n label long small none =
    let tests = passed (is_named label) (number_at label 8 == number) (number_at label 10 == n) none in
    let named = both (starts_with nat_eq label (codes "F83BLOCK")) (list_all (λ byte. byte == 0) (drop 12 label)) tests.0 in
    let name : label ≡ codes "F83BLOCK" ++ drop 8 label = (starts_is Decides-eqb label (codes "F83BLOCK") _ refl).0 named.0 in
    let version = low_high (slice_index label 8) (slice_index label 9) number (small 8) (small 9) (eqb-true (number_at label 8) number tests.1) in
    let count = low_high (slice_index label 10) (slice_index label 11) n (small 10) (small 11) (eqb-true (number_at label 10) n tests.2) in
    let zeros : drop 12 label ≡ replicate 500 0 = all_zero (drop 12 label) 500 (omega (arith, length-drop 12 label)) named.1 in
    name
    ∙ ap (λ (rest : List ℕ). codes "F83BLOCK" ++ rest)
    (drop_more label 8 0 (omega arith)
    ∙ (λ i. version.0 i ∷ (drop_more label 9 0 (omega arith)
    ∙ (λ j. version.1 j ∷ (drop_more label 10 0 (omega arith)
    ∙ (λ k. count.0 k ∷ (drop_more label 11 0 (omega arith)
    ∙ (λ l. count.1 l ∷ zeros l)) k)) j)) i))

-- The good label passes.
pub good_passes : (n sectors : ℕ) (label : List ℕ) → 32 ≤ n → n ≤ 3840 → sectors ≡ sectors_for n → label ≡ label_of n → refusal sectors label ≡ None
good_passes n sectors label many few size good =
    ap (λ x. cond (not x) (Some BadSize) (label_refusal (blocks_in sectors) label)) right_size
    ∙ ap (λ m. label_refusal m label) count_is ∙ ap (label_refusal n) good
    ∙ ap (λ x. cond (not x) (Some WrongCount) None) (eq-eqb (n % 256 + 256 * (n / 256 % 256)) n (omega arith))
  where
    count_is : blocks_in sectors ≡ n
    count_is = omega (arith, size)

    right_size : is_size sectors ≡ true
    right_size = ap (λ m. (nat_le 32 m && nat_le m 3840) && (sectors == sectors_for m)) count_is
        ∙ (λ i. (le_test 32 n many i && le_test n 3840 few i) && eq-eqb sectors (sectors_for n) size i)
      where
        le_test : (a b : ℕ) → a ≤ b → nat_le a b ≡ true
        le_test a b le = grind (arith, nat_tests)
