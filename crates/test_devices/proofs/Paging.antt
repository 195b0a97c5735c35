-- A write of a part of a sector of a file whose units are pages.
use Rattle.std.proofs.Common.{◌≡◌, ◌≢◌, inl, inr, ⊎_elim, ℕ, ◌+◌, ◌*◌, ◌/◌, ◌<◌, ◌≤◌, Bool, true, false, List, refl, sym, ◌∙◌, ap, arith}
use Rattle.std.specs.Prelude.{slice_index, slice_index_or}
use Rattle.std.proofs.lemmas.Bool.{cases_eq, cases_lt}
use Rattle.sector_disk.specs.FileBytes.{Misses, Spoils, Puts}
use Rattle.test_devices.specs.MemoryFile.{IsAsSyncedElsewhere}
use Rattle.test_devices.specs.PagedFile.{bytes_in_pages}

true_false : true ≡ false → ⊥
true_false is = cc

-- The first n of m bytes were put at this place, and its page was marked.
module _ (at n m : ℕ) (bytes content content' synced : List ℕ) (unsynced unsynced' : List Bool) (some : 0 < n) (few : n ≤ m)
    (inside : at + n ≤ 512 * (at / 512) + 512)
    (put : (i : ℕ) → i < n → slice_index content' (at + i) ≡ slice_index bytes i)
    (before : (p : ℕ) → p < at → slice_index content' p ≡ slice_index content p)
    (after : (p : ℕ) → at + n ≤ p → slice_index content' p ≡ slice_index content p)
    (mark : slice_index_or unsynced' (at / 512 / 8) false ≡ true)
    (others : (k : ℕ) → k ≢ at / 512 / 8 → slice_index_or unsynced' k false ≡ slice_index_or unsynced k false)
  where
    outside : (k i : ℕ) → i < 512 → k ≢ at / 512 → slice_index content' (512 * k + i) ≡ slice_index content (512 * k + i)
    outside k i below other = elim (cases_lt k (at / 512)) [
      | inl low ↦ before (512 * k + i) (omega (arith, low, below))
      | inr high ↦ after (512 * k + i) (omega (arith, high, other, below, inside))
    ]

    far : (k : ℕ) → k / 8 ≢ at / 512 / 8 → (i : ℕ) → i < 512 → slice_index content' (512 * k + i) ≡ slice_index content (512 * k + i)
    far k other i below = outside k i below (λ is. other (ap (λ j. j / 8) is))

    marked : (k : ℕ) → k / 8 ≡ at / 512 / 8 → slice_index_or unsynced' (k / 8) false ≡ true
    marked k here = ap (λ p. slice_index_or unsynced' p false) here ∙ mark

    hit : (k : ℕ) → k ≡ at / 512 → Misses at m k → ⊥
    hit k is out = ⊎_elim (λ low. omega (arith, is, low)) (λ high. omega (arith, is, high, some, few)) out

    pub paged_puts : Puts at bytes n (bytes_in_pages content synced unsynced) (bytes_in_pages content' synced unsynced')
    paged_puts = record {
      put = put;
      before = before;
      after = after;
      marks = λ j k is any low high. marked j (is ∙ ap (λ i. i / 8) (here k low high));
    }
      where
        here : (k : ℕ) → 512 * k < at + n → at < 512 * k + 512 → k ≡ at / 512
        here k low high = omega (arith, low, high, inside)

    pub paged_spoils : Spoils at m (bytes_in_pages content synced unsynced) (bytes_in_pages content' synced unsynced')
    paged_spoils = record {
      synced = refl;
      unit = refl;
      touched = λ k. elim (cases_eq (k / 8) (at / 512 / 8)) [
        | inl here ↦ inr (λ j is. marked j (is ∙ here))
        | inr other ↦ inl (λ j is. record {
          bytes = far j (λ here. other (sym is ∙ here));
          unsynced = others (j / 8) (λ here. other (sym is ∙ here));
        })
      ];
      missed = λ k out i below. outside k i below (λ is. hit k is out);
      apart = λ k out. others (k / 8) (λ here. hit (at / 512) refl (out (at / 512) (sym here)));
    }

    pub still_synced : IsAsSyncedElsewhere (bytes_in_pages content synced unsynced) → IsAsSyncedElsewhere (bytes_in_pages content' synced unsynced')
    still_synced was = record {
      each = λ k i below clear. elim (cases_eq (k / 8) (at / 512 / 8)) [
        | inl here ↦ absurd (true_false (sym (marked k here) ∙ clear))
        | inr other ↦ far k other i below ∙ was.each k i below (sym (others (k / 8) other) ∙ clear)
      ];
    }
