-- Laws of the bytes of a span.
use Rattle.std.specs.Prelude.{◌≡◌, ℕ, zero, suc, ◌+◌, ◌*◌, ◌<◌, List, length, get_or, slice_index, refl}
use Rattle.std.proofs.Common.{sym, ◌∙◌, ap, subst, arith}
use Rattle.std.proofs.lemmas.List.{ext_get_or}
use Rattle.sector_disk.specs.FileBytes.{span, sector_of}

-- the bytes of a span
module _ (bytes : ℕ → ℕ) where
  pub length-span : (at n : ℕ) → length (span bytes at n) ≡ n
  unfolding span
  length-span at zero = refl
  length-span at (suc n) = ap suc (length-span (at + 1) n)

  pub index-span : (at n i : ℕ) → i < n → get_or (span bytes at n) i 0 ≡ bytes (at + i)
  unfolding span
  index-span at zero i below = absurd (omega arith)
  index-span at (suc n) zero below = ap bytes (omega arith)
  index-span at (suc n) (suc i) below = index-span (at + 1) n i (omega arith) ∙ ap bytes (omega arith)

-- a list of these bytes is the span
pub span_of : (bytes : ℕ → ℕ) (at n : ℕ) (xs : List ℕ) → length xs ≡ n → ((i : ℕ) → i < n → slice_index xs i ≡ bytes (at + i)) → xs ≡ span bytes at n
span_of bytes at n xs long each =
    ext_get_or 0 xs (span bytes at n) (long ∙ sym (length-span bytes at n))
    (λ i below. each i (subst (λ m. i < m) long below) ∙ sym (index-span bytes at n i (subst (λ m. i < m) long below)))

pub same_span : (f g : ℕ → ℕ) (at n : ℕ) → ((i : ℕ) → i < n → f (at + i) ≡ g (at + i)) → span f at n ≡ span g at n
same_span f g at n each = span_of g at n (span f at n) (length-span f at n) (λ i below. index-span f at n i below ∙ each i below)

pub sector_is : (bytes : ℕ → ℕ) (k : ℕ) (xs : List ℕ) → length xs ≡ 512 → ((i : ℕ) → i < 512 → slice_index xs i ≡ bytes (512 * k + i)) → xs ≡ sector_of bytes k
unfolding sector_of
sector_is bytes k xs long each = span_of bytes (512 * k) 512 xs long each

pub same_sector : (f g : ℕ → ℕ) (k : ℕ) → ((i : ℕ) → i < 512 → f (512 * k + i) ≡ g (512 * k + i)) → sector_of f k ≡ sector_of g k
unfolding sector_of
same_sector f g k each = same_span f g (512 * k) 512 each
