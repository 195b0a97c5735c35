-- What is kept over one call and over the next is kept over both.
use Rattle.std.proofs.Common.{◌⊎◌, ℕ, ◌≤◌, List, [], ◌∷◌, ◌++◌, inl, inr, ⊎_elim, arith}
use Rattle.block_words.specs.Words.{Save}
use Rattle.block_words.specs.Kept.{MeansOneOf, KeptFrom, last_map}

module _ {Image : Type 0} (means : Image → List (List ℕ) → Type 0) (since since' : ℕ → Image → Type 0) (now now' : ℕ) (later : now ≤ now') where
  -- what a stop since t might have left was so before the second call, or is so since its start
  abbrev pub HandsOn : Type 0
  HandsOn = (t : ℕ) (i : Image) → t ≤ now → since' t i → since t i ⊎ since' now i

  widen : (m : List (List ℕ)) (ss more : List Save) (i : Image) → MeansOneOf means m ss i → MeansOneOf means m (ss ++ more) i
  widen m [] [] i h = h
  widen m [] (s ∷ more) i h = inl h
  widen m (s ∷ ss) more i h = ⊎_elim (λ k. inl k) (λ k. inr (widen s.map ss more i k)) h

  at_end : (m : List (List ℕ)) (ss more : List Save) (i : Image) → MeansOneOf means (last_map m ss) more i → MeansOneOf means m (ss ++ more) i
  at_end m [] more i h = h
  at_end m (s ∷ ss) more i h = inr (at_end s.map ss more i h)

  some_of : (m : List (List ℕ)) (ss : List Save) (t : ℕ) (i : Image) → KeptFrom means since' now' m ss t → since' t i → MeansOneOf means m ss i
  some_of m [] t i k h = k i h
  some_of m (s ∷ ss) t i k h = k.0 i h

  -- the second call found the store open, so every save of the first returned
  pub kept_open : HandsOn → (m : List (List ℕ)) (ss more : List Save) (t : ℕ) → t ≤ now → KeptFrom means since now m ss t → KeptFrom means since' now' (last_map m ss) more now → KeptFrom means since' now' m (ss ++ more) t
  kept_open hands m [] [] t le k l = λ i h. ⊎_elim (λ a. k i a) (λ a. l i a) (hands t i le h)
  kept_open hands m [] (s ∷ more) t le k l = (
    λ i h. ⊎_elim (λ a. inl (k i a)) (λ a. l.0 i a) (hands t i le h),
    λ r. let b = l.1 r in (b.0, omega (arith, b.1, le), b.2, b.3),
  )
  kept_open hands m (s ∷ ss) more t le k l = (
    λ i h. ⊎_elim (λ a. widen m (s ∷ ss) more i (k.0 i a)) (λ a. at_end m (s ∷ ss) more i (some_of (last_map m (s ∷ ss)) more now i l a)) (hands t i le h),
    λ r. let b = k.1 r in (b.0, b.1, omega (arith, b.2, later), kept_open hands s.map ss more b.0 b.2 b.3 l),
  )

  -- the second call found the store closed
  pub kept_closed : HandsOn → ((i : Image) → since' now i → since now i) → ((t : ℕ) (i : Image) → t ≤ now → since now i → since t i) → (m : List (List ℕ)) (ss : List Save) (t : ℕ) → t ≤ now → KeptFrom means since now m ss t → KeptFrom means since' now' m ss t
  kept_closed hands none earlier m [] t le k = λ i h. k i (⊎_elim (λ a. a) (λ a. earlier t i le (none i a)) (hands t i le h))
  kept_closed hands none earlier m (s ∷ ss) t le k = (
    λ i h. k.0 i (⊎_elim (λ a. a) (λ a. earlier t i le (none i a)) (hands t i le h)),
    λ r. let b = k.1 r in (b.0, b.1, omega (arith, b.2, later), kept_closed hands none earlier s.map ss b.0 b.2 b.3),
  )
