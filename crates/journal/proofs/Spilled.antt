-- One more block is spilled with its tag, which is exchanged in the sum.
use Rattle.std.proofs.Common.{◌≡◌, ◌≢◌, inl, inr, ℕ, ◌+◌, ◌<◌, Bool, true, false, cond, List, refl, sym, ◌∙◌, ap, subst, arith}
use Rattle.std.specs.Prelude.{not}
use Rattle.std.proofs.lemmas.Bool.{cases_eq}
use Rattle.sector_disk.specs.Disk.{Disk, Image}
use Rattle.sector_disk.specs.Pages.{InPage}
use Rattle.journal.specs.Layout.{listed}
use Rattle.journal.specs.PageImages.{current_of, current_tag, free_of, free_tag}
use Rattle.journal.specs.PageLayout.{current_at, free_at, sum_in, tag_in}
use Rattle.journal.specs.PageSteps.{HasSpilled, IsSound, merged_tag}
use Rattle.journal.specs.Steps.{WritesOnly}
use Rattle.journal.specs.Tags.{tag_of, xor_bytes}
use Rattle.journal.proofs.Meaning.{pair_same}
use Rattle.journal.proofs.Stops.{places_apart, not_same}
use Rattle.journal.proofs.Sums.{same_sum, exchanged}

not_both : (t : Bool) → t ≡ true → ¬ (t ≡ false)
not_both true is isnt = cc
not_both false is isnt = cc

-- the tag beside the latest text is where it is
pub tag_there : (listing pending : List ℕ) (image : Image) (b : ℕ)
    → tag_in (image (cond (listed pending b) (free_at listing b) (current_at listing b) + 2)) ≡ merged_tag listing pending image b
tag_there listing pending image b = both (listed pending b)
  where
    both : (t : Bool) → tag_in (image (cond t (free_at listing b) (current_at listing b) + 2)) ≡ cond t (free_tag listing image b) (current_tag listing image b)
    both true = refl
    both false = refl

-- With nothing spilled the sum is that of the record that counts.
pub nothing_spilled : (n : ℕ) (is_open : Bool) (listing pending sum : List ℕ) (disk : Disk) → ((b : ℕ) → listed pending b ≡ false)
    → sum ≡ sum_in listing → IsSound n is_open listing disk → HasSpilled n listing pending sum disk.content
nothing_spilled n is_open listing pending sum disk none is sound = record {
  tags = λ b below pends. absurd (not_both (listed pending b) pends (none b));
  total =
      is ∙ sound.blocks.sum
      ∙ same_sum (merged_tag listing pending disk.content) (λ b. tag_of b (current_of listing disk.content b)) n (λ b below.
      sym (ap (λ t. cond t (free_tag listing disk.content b) (current_tag listing disk.content b)) (none b) ∙ sound.blocks.tags b below));
}

module _ (listing : List ℕ) (b : ℕ) (d e : Disk) (only : WritesOnly (InPage (free_at listing b)) d e) where
  -- No current place lies in the page of a free one,
  current_apart : (a h : ℕ) → h < 8 → ¬ InPage (free_at listing b) (current_at listing a + h)
  current_apart a h less =
      places_apart b a h (listed listing a) (not (listed listing b)) less
      (λ same both. not_same (listed listing b) (sym (ap (listed listing) same) ∙ both))

  -- nor that of another block.
  free_apart : (a h : ℕ) → h < 8 → a ≢ b → ¬ InPage (free_at listing b) (free_at listing a + h)
  free_apart a h less other = places_apart b a h (not (listed listing a)) (not (listed listing b)) less (λ same both. other same)

  current_tag_kept : (a : ℕ) → current_tag listing e.content a ≡ current_tag listing d.content a
  current_tag_kept a = ap tag_in (only.content (current_at listing a + 2) (current_apart a 2 (omega arith)))

  free_tag_kept : (a : ℕ) → a ≢ b → free_tag listing e.content a ≡ free_tag listing d.content a
  free_tag_kept a other = ap tag_in (only.content (free_at listing a + 2) (free_apart a 2 (omega arith) other))

  free_kept : (a : ℕ) → a ≢ b → free_of listing e.content a ≡ free_of listing d.content a
  free_kept a other = pair_same d.content e.content (free_at listing a)
      (only.content (free_at listing a) (λ same. free_apart a 0 (omega arith) other (omega (arith, same))))
      (only.content (free_at listing a + 1) (free_apart a 1 (omega arith) other))

  module _ (n : ℕ) (below : b < n) (pending next bytes sum new : List ℕ) (here : listed next b ≡ true)
      (others : (a : ℕ) → a ≢ b → listed next a ≡ listed pending a)
      (wrote : free_of listing e.content b ≡ bytes) (tagged : free_tag listing e.content b ≡ tag_of b bytes)
      (exchange : new ≡ xor_bytes (xor_bytes sum (merged_tag listing pending d.content b)) (tag_of b bytes))
    where
      -- the tags that the sum has now
      tag_new : merged_tag listing next e.content b ≡ tag_of b bytes
      tag_new = ap (λ t. cond t (free_tag listing e.content b) (current_tag listing e.content b)) here ∙ tagged

      tag_kept : (a : ℕ) → a ≢ b → merged_tag listing next e.content a ≡ merged_tag listing pending d.content a
      tag_kept a other = λ i. cond (others a other i) (free_tag_kept a other i) (current_tag_kept a i)

      pub spilled_more : HasSpilled n listing pending sum d.content → HasSpilled n listing next new e.content
      spilled_more before = record {
        tags = λ a less pends. elim (cases_eq a b) [
          | inl same ↦
              subst (λ k. free_tag listing e.content k ≡ tag_of k (free_of listing e.content k)) (sym same) (tagged ∙ ap (tag_of b) (sym wrote))
          | inr other ↦
              free_tag_kept a other ∙ before.tags a less (sym (others a other) ∙ pends) ∙ ap (tag_of a) (sym (free_kept a other))
        ];
        total =
            exchange
            ∙ (λ t. xor_bytes (xor_bytes (before.total t) (merged_tag listing pending d.content b)) (sym tag_new t))
            ∙ exchanged (merged_tag listing pending d.content) (merged_tag listing next e.content) n b below (λ a less other. tag_kept a other);
      }
