-- A block's tag is exchanged in a sum.
use Rattle.std.proofs.Common.{◌≡◌, ◌≢◌, inl, inr, ℕ, zero, suc, ◌<◌, List, [], ◌∷◌, length, get_or, refl, sym, ◌∙◌, ap, subst, arith}
use Rattle.std.specs.Prelude.{bit_xor}
use Rattle.std.specs.Int.Bits.{xor_assoc, xor_self, xor_zero_r}
use Rattle.std.proofs.lemmas.Bool.{cases_eq}
use Rattle.std.proofs.lemmas.List.{ext_get_or}
use Rattle.std.proofs.lemmas.Nat.{xor_comm}
use Rattle.journal.specs.Tags.{xor_bytes, sum_below}

number_undone : (x y : ℕ) → bit_xor (bit_xor x y) y ≡ x
number_undone x y = xor_assoc x y y ∙ ap (bit_xor x) (xor_self y) ∙ xor_zero_r x

number_swapped : (x y z : ℕ) → bit_xor (bit_xor x y) z ≡ bit_xor (bit_xor x z) y
number_swapped x y z = xor_assoc x y z ∙ ap (bit_xor x) (xor_comm y z) ∙ sym (xor_assoc x z y)

-- Twice the same changes nothing.
undone : (x y : List ℕ) → xor_bytes (xor_bytes x y) y ≡ x
undone [] y = refl
undone (a ∷ x) [] = refl
undone (a ∷ x) (b ∷ y) = λ t. number_undone a b t ∷ undone x y t

-- The order doesn't matter.
swapped : (x y z : List ℕ) → xor_bytes (xor_bytes x y) z ≡ xor_bytes (xor_bytes x z) y
swapped [] y z = refl
swapped (a ∷ x) [] [] = refl
swapped (a ∷ x) [] (c ∷ z) = refl
swapped (a ∷ x) (b ∷ y) [] = refl
swapped (a ∷ x) (b ∷ y) (c ∷ z) = λ t. number_swapped a b c t ∷ swapped x y z t

length-xor : (xs ys : List ℕ) → length (xor_bytes xs ys) ≡ length xs
length-xor [] ys = refl
length-xor (x ∷ xs) [] = refl
length-xor (x ∷ xs) (y ∷ ys) = ap suc (length-xor xs ys)

at_xor : (xs ys : List ℕ) (i : ℕ) → i < length xs → get_or (xor_bytes xs ys) i 0 ≡ bit_xor (get_or xs i 0) (get_or ys i 0)
at_xor [] ys i below = absurd (omega arith)
at_xor (x ∷ xs) [] i below = sym (xor_zero_r (get_or (x ∷ xs) i 0))
at_xor (x ∷ xs) (y ∷ ys) zero below = refl
at_xor (x ∷ xs) (y ∷ ys) (suc i) below = at_xor xs ys i (omega arith)

-- a list by its bytes
pub xor_of : (xs ys zs : List ℕ) → length zs ≡ length xs → ((i : ℕ) → i < length xs → get_or zs i 0 ≡ bit_xor (get_or xs i 0) (get_or ys i 0)) → zs ≡ xor_bytes xs ys
xor_of xs ys zs long each = ext_get_or 0 zs (xor_bytes xs ys) (long ∙ sym (length-xor xs ys)) (λ i below.
    each i (subst (λ m. i < m) long below) ∙ sym (at_xor xs ys i (subst (λ m. i < m) long below)))

pub same_sum : (f g : ℕ → List ℕ) (n : ℕ) → ((b : ℕ) → b < n → g b ≡ f b) → sum_below g n ≡ sum_below f n
same_sum f g zero same = refl
same_sum f g (suc n) same = λ t. xor_bytes (same_sum f g n (λ b below. same b (omega arith)) t) (same n (omega arith) t)

-- The old tag of block a takes it out of a sum, and the new one puts it in.
pub exchanged : (f g : ℕ → List ℕ) (n a : ℕ) → a < n → ((b : ℕ) → b < n → b ≢ a → g b ≡ f b)
    → xor_bytes (xor_bytes (sum_below f n) (f a)) (g a) ≡ sum_below g n
exchanged f g zero a below same = absurd (omega arith)
exchanged f g (suc n) a below same = elim (cases_eq a n) [
  | inl is ↦
      ap (λ b. xor_bytes (xor_bytes (xor_bytes (sum_below f n) (f n)) (f b)) (g b)) is
      ∙ ap (λ x. xor_bytes x (g n)) (undone (sum_below f n) (f n))
      ∙ ap (λ x. xor_bytes x (g n)) (sym (same_sum f g n (λ b less. same b (omega arith) (λ at. absurd (omega (arith, at, is, less))))))
  | inr other ↦
      ap (λ x. xor_bytes x (g a)) (swapped (sum_below f n) (f n) (f a))
      ∙ swapped (xor_bytes (sum_below f n) (f a)) (f n) (g a)
      ∙ ap (λ x. xor_bytes x (f n)) (exchanged f g n a (omega arith) (λ b less apart. same b (omega arith) apart))
      ∙ ap (λ x. xor_bytes (sum_below g n) x) (sym (same n (omega arith) (λ at. other (sym at))))
]
