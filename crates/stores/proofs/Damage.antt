-- The test for damage by layout 3 is exact.
use Rattle.std.proofs.Common.{◌≡◌, ◌∙◌, inl, inr, ℕ, zero, suc, ◌<◌, Bool, true, false, List, Some, None, refl, sym, ap, subst, arith, nat_eq}
use Rattle.std.specs.Prelude.{◌&&◌, if◌then◌else◌}
use Rattle.std.specs.Cmp.Lexicographic.{pointwise}
use Rattle.std.proofs.lemmas.Bool.{cases_eq}
use Rattle.std.proofs.lemmas.Bool.Decides.{Decides-eqb}
use Rattle.std.proofs.lemmas.Slice.Eq.{slice_eq-Decides}
use Rattle.sector_disk.specs.Disk.{Image}
use Rattle.recovery.specs.Opened.{first_of}
use Rattle.recovery.specs.declared.fault.OpenFault.{OpenFault}
use Rattle.recovery.specs.declared.fault.OpenFault.TheVariants.{Damaged}
use Rattle.journal.specs.PageImages.{current_of, current_tag, record_of, IsWholeUnder}
use Rattle.journal.specs.PageLayout.{sum_in}
use Rattle.shadow.specs.Opened.{Passes, Refuses}
use Rattle.journal.specs.Tags.{tag_of, sum_below}
use Rattle.stores.specs.Damage.{are_tagged, is_whole, is_whole_under}
use Rattle.stores.specs.ByLayout.{damage_by, refusal_by}
use Rattle.journal.specs.declared.sizes.Layout.TheVariants.{Pages}

same_bytes : (xs ys : List ℕ) → pointwise nat_eq xs ys ≡ true → xs ≡ ys
same_bytes xs ys is = (slice_eq-Decides Decides-eqb xs ys (pointwise nat_eq xs ys) refl).0 is

are_same : (xs ys : List ℕ) → xs ≡ ys → pointwise nat_eq xs ys ≡ true
are_same xs ys is = (slice_eq-Decides Decides-eqb xs ys (pointwise nat_eq xs ys) refl).1 is

both : (a b : Bool) → a ≡ true → b ≡ true → (a && b) ≡ true
both true b is also = also
both false b is also = absurd (cc)

first_is : (a b : Bool) → (a && b) ≡ true → a ≡ true
first_is true b is = refl
first_is false b is = absurd (cc)

second_is : (a b : Bool) → (a && b) ≡ true → b ≡ true
second_is true b is = is
second_is false b is = absurd (cc)

module _ (listing : List ℕ) (image : Image) where
  abbrev IsTagged : ℕ → Type 0
  IsTagged b = current_tag listing image b ≡ tag_of b (current_of listing image b)

  tags_tested : (n : ℕ) → ((b : ℕ) → b < n → IsTagged b) → are_tagged listing image n ≡ true
  tags_tested zero each = refl
  tags_tested (suc n) each =
      both (are_tagged listing image n) (pointwise nat_eq (current_tag listing image n) (tag_of n (current_of listing image n)))
      (tags_tested n (λ b below. each b (omega (arith, below))))
      (are_same (current_tag listing image n) (tag_of n (current_of listing image n)) (each n (omega arith)))

  tested_tags : (n : ℕ) → are_tagged listing image n ≡ true → (b : ℕ) → b < n → IsTagged b
  tested_tags zero is b below = absurd (omega (arith, below))
  tested_tags (suc n) is b below =
      let first = are_tagged listing image n in
      let last = pointwise nat_eq (current_tag listing image n) (tag_of n (current_of listing image n)) in
      elim (cases_eq b n) [
        | inl same ↦ subst IsTagged (sym same) (same_bytes (current_tag listing image n) (tag_of n (current_of listing image n)) (second_is first last is))
        | inr other ↦ tested_tags n (first_is first last is) b (omega (arith, below, other))
      ]

  whole_tested : (n : ℕ) → IsWholeUnder n listing image → is_whole_under n listing image ≡ true
  whole_tested n whole =
      let sum = sum_below (λ b. tag_of b (current_of listing image b)) n in
      both (are_tagged listing image n) (pointwise nat_eq (sum_in listing) sum) (tags_tested n whole.tags) (are_same (sum_in listing) sum whole.sum)

  tested_whole : (n : ℕ) → is_whole_under n listing image ≡ true → IsWholeUnder n listing image
  tested_whole n is =
      let sum = sum_below (λ b. tag_of b (current_of listing image b)) n in
      let first = are_tagged listing image n in
      let last = pointwise nat_eq (sum_in listing) sum in
      record { tags = tested_tags n (first_is first last is); sum = same_bytes (sum_in listing) sum (second_is first last is) }

-- What passes an opening by layout 3, and what is refused there, is told by the function that computes it.
module _ (n : ℕ) (image : Image) where
  pub passes_none : Passes n image → refusal_by Pages n image ≡ None
  passes_none passes =
      ap (λ r. first_of r (damage_by Pages n image)) passes.label
      ∙ ap (λ whole. if whole then None else Some Damaged) (whole_tested (record_of image) image n passes.whole)

  pub refused_some : (fault : OpenFault) → Refuses n image fault → refusal_by Pages n image ≡ Some fault
  refused_some fault (inl label) = ap (λ r. first_of r (damage_by Pages n image)) label
  refused_some fault (inr damaged) =
      ap (λ r. first_of r (damage_by Pages n image)) damaged.0 ∙ pick (is_whole n image) refl
    where
      pick : (whole : Bool) → is_whole n image ≡ whole → (if whole then None else Some Damaged) ≡ Some fault
      pick true is = absurd (damaged.2 (tested_whole (record_of image) image n is))
      pick false is = ap Some (sym damaged.1)
