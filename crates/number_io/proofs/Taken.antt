-- What the functions of a taking give is a taking.
use Rattle.std.proofs.Common.{◌≡◌, ◌≢◌, ℕ, Bool, true, false, List, [], ◌∷◌, ◌++◌, refl, sym, ap, append_assoc, ◌∙◌, subst}
use Rattle.std.specs.Prelude.{cond, ◌==◌}
use Rattle.std.specs.List.{AllByRecursion}
use Rattle.std.proofs.lemmas.Bool.{eqb-true, eqb-false}
use Rattle.number_io.specs.Taking.{BeginsWith, IsTaking, IsTextTaking, text_of, skipped, skip, up_to, from, word_of}

parts : (c : ℕ) (t : List ℕ) → t ≡ up_to c t ++ from c t
parts c [] = refl
parts c (b ∷ t) =
    elim (b == c) as (λ v. (b ∷ t) ≡ cond v [] (b ∷ up_to c t) ++ cond v (b ∷ t) (from c t)) [ true ↦ refl | false ↦ ap (λ l. b ∷ l) (parts c t) ]

ends : (c : ℕ) (t : List ℕ) → BeginsWith c (from c t)
ends c [] = tt
ends c (b ∷ t) = go (b == c) refl (ends c t)
  where
    go : (v : Bool) → (b == c) ≡ v → BeginsWith c (from c t) → BeginsWith c (cond v (b ∷ t) (from c t))
    go true e k = eqb-true b c e
    go false e k = k

front : (c : ℕ) (t : List ℕ) → t ≡ skipped c t ++ skip c t
front c [] = refl
front c (b ∷ t) =
    elim (b == c) as (λ v. (b ∷ t) ≡ cond v (b ∷ skipped c t) [] ++ cond v (skip c t) (b ∷ t)) [ true ↦ ap (λ l. b ∷ l) (front c t) | false ↦ refl ]

only : (c : ℕ) (t : List ℕ) → AllByRecursion (λ b. b ≡ c) (skipped c t)
only c [] = tt
only c (b ∷ t) = go (b == c) refl (only c t)
  where
    go : (v : Bool) → (b == c) ≡ v → AllByRecursion (λ b. b ≡ c) (skipped c t) → AllByRecursion (λ b. b ≡ c) (cond v (b ∷ skipped c t) [])
    go true e k = (eqb-true b c e, k)
    go false e k = tt

none : (c : ℕ) (t : List ℕ) → AllByRecursion (λ b. b ≢ c) (up_to c t)
none c [] = tt
none c (b ∷ t) = go (b == c) refl (none c t)
  where
    go : (v : Bool) → (b == c) ≡ v → AllByRecursion (λ b. b ≢ c) (up_to c t) → AllByRecursion (λ b. b ≢ c) (cond v [] (b ∷ up_to c t))
    go true e k = tt
    go false e k = (eqb-false b c e, k)

-- an empty word is taken at the end alone
at_end : (c : ℕ) (t : List ℕ) → up_to c (skip c t) ≡ [] → from c (skip c t) ≡ []
at_end c [] h = refl
at_end c (b ∷ t) h = go (b == c) refl h (λ k. at_end c t k)
  where
    go : (v : Bool) → (b == c) ≡ v → up_to c (cond v (skip c t) (b ∷ t)) ≡ [] → (up_to c (skip c t) ≡ [] → from c (skip c t) ≡ []) → from c (cond v (skip c t) (b ∷ t)) ≡ []
    go true e k ih = ih k
    go false e k ih = let k' : cond false [] (b ∷ up_to c t) ≡ [] = subst (λ v. cond v [] (b ∷ up_to c t) ≡ []) e k in absurd (cc k')

pub word_is_taken : (c : ℕ) (t : List ℕ) → IsTaking c t (skipped c t) (word_of c t) (from c (skip c t))
word_is_taken c t = record {
  whole = front c t ∙ ap (λ l. skipped c t ++ l) (parts c (skip c t)) ∙ sym (append_assoc (skipped c t) (word_of c t) (from c (skip c t)));
  only = only c t;
  none = none c (skip c t);
  end = ends c (skip c t);
  nonempty = at_end c t;
}

pub text_is_taken : (c : ℕ) (t : List ℕ) → IsTextTaking c t (text_of c t) (from c t)
text_is_taken c t = record { whole = parts c t; none = none c t; end = ends c t }

-- the same of a list that is the word, or the text
pub is_word_taken : (c : ℕ) (t w : List ℕ) → w ≡ word_of c t → IsTaking c t (skipped c t) w (from c (skip c t))
is_word_taken c t w e = subst (λ l. IsTaking c t (skipped c t) l (from c (skip c t))) (sym e) (word_is_taken c t)

pub is_text_taken : (c : ℕ) (t w : List ℕ) → w ≡ text_of c t → IsTextTaking c t w (from c t)
is_text_taken c t w e = subst (λ l. IsTextTaking c t l (from c t)) (sym e) (text_is_taken c t)
