-- A number is written in one way alone.
use Rattle.std.proofs.Common.{◌≡◌, refl, sym, ap, ◌∙◌, length, ◌≤◌, ◌<◌, ◌*◌, ◌+◌, ◌^◌, ◌⊎◌, inl, inr, ℕ, List, [], ◌∷◌, arith, suc}
use Rattle.std.specs.List.{AllByRecursion}
use Rattle.std.proofs.Math.Nat.{pow-succ', pow-zero, pow-le-pow_right}
use Rattle.std.proofs.lemmas.Nat.{row_fits}
use Rattle.std.proofs.lemmas.Bool.{cases_order}
use Rattle.number_io.specs.Digits.{sum_of_powers}
use Rattle.number_io.specs.Writing.{digits_of, IsWritten}
use Rattle.number_io.proofs.Dividing.{written}

-- digits below the base sum up to less than the power above them
below : (base : ℕ) (ds : List ℕ) → AllByRecursion (λ d. d < base) ds → sum_of_powers base ds < base ^ length ds
below base [] h = let p : base ^ 0 ≡ 1 = pow-zero base in omega arith
below base (d ∷ ds) h =
    let p : base ^ suc (length ds) ≡ base * base ^ length ds = pow-succ' base (length ds) in
    let row : d * base ^ length ds + base ^ length ds ≤ base * base ^ length ds = row_fits d (base ^ length ds) base (base ^ length ds) h.0 (omega arith) in
    let rest : sum_of_powers base ds < base ^ length ds = below base ds h.1 in
    omega arith

-- d * p + s says both d and s, where s is less than p
parts : (d e p s t : ℕ) → d * p + s ≡ e * p + t → s < p → t < p → (d ≡ e) × (s ≡ t)
parts d e p s t h a b = go (cases_order d e)
  where
    go : (d ≡ e) ⊎ ((d < e) ⊎ (e < d)) → (d ≡ e) × (s ≡ t)
    go (inl k) = let m : d * p ≡ e * p = ap (λ x. x * p) k in (k, omega arith)
    go (inr (inl k)) = let row : d * p + p ≤ e * p = row_fits d p e p k (omega arith) in absurd (omega arith)
    go (inr (inr k)) = let row : e * p + p ≤ d * p = row_fits e p d p k (omega arith) in absurd (omega arith)

-- as many digits with the same sum
same_digits : (base : ℕ) (ds es : List ℕ) → length ds ≡ length es → AllByRecursion (λ d. d < base) ds → AllByRecursion (λ d. d < base) es → sum_of_powers base ds ≡ sum_of_powers base es → ds ≡ es
same_digits base [] [] n a b h = refl
same_digits base [] (e ∷ es) n a b h = absurd (omega arith)
same_digits base (d ∷ ds) [] n a b h = absurd (omega arith)
same_digits base (d ∷ ds) (e ∷ es) n a b h =
    let m : length ds ≡ length es = omega arith in
    let power : base ^ length es ≡ base ^ length ds = ap (λ k. base ^ k) (sym m) in
    let whole : d * base ^ length ds + sum_of_powers base ds ≡ e * base ^ length ds + sum_of_powers base es =
    h ∙ ap (λ p. e * p + sum_of_powers base es) power in
    let p = parts d e (base ^ length ds) (sum_of_powers base ds) (sum_of_powers base es) whole (below base ds a.1) (omega (arith, below base es b.1, power)) in
    ap (λ x. x ∷ ds) p.0 ∙ ap (λ l. e ∷ l) (same_digits base ds es m a.1 b.1 p.1)

-- more digits, of which the first isn't zero, sum up to more
longer : (base n : ℕ) (ds es : List ℕ) → 2 ≤ base → IsWritten base n ds → IsWritten base n es → length ds < length es → ⊥
longer base n ds [] b a c h = omega arith
longer base n ds (e ∷ es) b a c h =
    let first : 0 < e = c.leading (omega (arith, a.some)) in
    let least : base ^ length ds ≤ base ^ length es = pow-le-pow_right (omega arith) (omega arith) in
    let row : 0 * base ^ length es + base ^ length es ≤ e * base ^ length es = row_fits 0 (base ^ length es) e (base ^ length es) first (omega arith) in
    let less : sum_of_powers base ds < base ^ length ds = below base ds a.each in
    let same : sum_of_powers base ds ≡ e * base ^ length es + sum_of_powers base es = a.sum ∙ sym c.sum in
    omega arith

one_writing : (base n : ℕ) (ds es : List ℕ) → 2 ≤ base → IsWritten base n ds → IsWritten base n es → ds ≡ es
one_writing base n ds es b a c = same_digits base ds es (go (cases_order (length ds) (length es))) a.each c.each (a.sum ∙ sym c.sum)
  where
    go : (length ds ≡ length es) ⊎ ((length ds < length es) ⊎ (length es < length ds)) → length ds ≡ length es
    go (inl k) = k
    go (inr (inl k)) = absurd (longer base n ds es b a c k)
    go (inr (inr k)) = absurd (longer base n es ds b c a k)

pub is_digits_of : (base n : ℕ) (ds : List ℕ) → 2 ≤ base → IsWritten base n ds → ds ≡ digits_of base n
is_digits_of base n ds b a = one_writing base n ds (digits_of base n) b a (written base n b)
