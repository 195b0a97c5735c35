-- The open structures that lie in places.
use Rattle.std.proofs.Common.{◌≡◌, ◌∙◌, refl, ap, ℕ, zero, suc, ◌+◌, ◌-◌, ◌<◌, ◌≤◌, List, ◌∷◌, length, drop, get_or, slice_set, arith}
use Rattle.std.proofs.lemmas.List.{get_or-set_same, get_or-set_other}
use Rattle.compiler.specs.declared.opens.Open.{Open}
use Rattle.compiler.specs.declared.opens.Open.TheVariants.{Begin}
use Rattle.compiler.specs.OpenPlaces.{opens_in}

pub count : (p : List Open) (n : ℕ) → length (opens_in p n) ≡ n
count p zero = refl
count p (suc n) = ap suc (count p n)

-- the places above don't count
same : (p q : List Open) (n : ℕ) → ((j : ℕ) → j < n → get_or q j (Begin 0) ≡ get_or p j (Begin 0)) → opens_in q n ≡ opens_in p n
same p q zero h = refl
same p q (suc n) h =
    ap (λ x. x ∷ opens_in q n) (h n (omega arith))
    ∙ ap (λ l. get_or p n (Begin 0) ∷ l) (same p q n (λ j i. h j (omega arith)))

pub pushed : (p : List Open) (n k : ℕ) (x : Open) → k ≡ n + 1 → n < length p → opens_in (slice_set p n x) k ≡ x ∷ opens_in p n
pushed p n k x e h =
    let s : k ≡ suc n = omega arith in
    ap (λ k. opens_in (slice_set p n x) k) s
    ∙ ap (λ y. y ∷ opens_in (slice_set p n x) n) (get_or-set_same p n x (Begin 0) h)
    ∙ ap (λ l. x ∷ l) (same p (slice_set p n x) n (λ j i. get_or-set_other p n j x (Begin 0) (λ f. absurd (omega (arith, f)))))

pub popped : (p : List Open) (n : ℕ) → (n ≡ 0 → ⊥) → opens_in p n ≡ get_or p (n - 1) (Begin 0) ∷ opens_in p (n - 1)
popped p zero h = absurd (h refl)
popped p (suc n) h = let s : n ≡ suc n - 1 = omega arith in ap (λ k. get_or p k (Begin 0) ∷ opens_in p k) s

pub closed : (p : List Open) (n : ℕ) → opens_in p (n - 1) ≡ drop 1 (opens_in p n)
closed p zero = refl
closed p (suc n) = let s : suc n - 1 ≡ n = omega arith in ap (λ k. opens_in p k) s

pub changed : (p : List Open) (n : ℕ) (x : Open) → 0 < n → n ≤ length p → opens_in (slice_set p (n - 1) x) n ≡ x ∷ drop 1 (opens_in p n)
changed p n x h l =
    pushed p (n - 1) n x (omega arith) (omega arith)
    ∙ ap (λ l. x ∷ l) (closed p n)
