-- The dictionary's words and the language's, word for word.
use Rattle.std.proofs.Common.{◌≡◌, ℕ, zero, suc, ◌+◌, ◌<◌, ◌≤◌, List, [], ◌∷◌, ◌++◌, length, take, refl, sym, ◌∙◌, ap, subst, arith, Option, Some, None}
use Rattle.std.specs.List.{slice_get}
use Rattle.cell_machine.specs.Events.{BodyAt}
use Rattle.cell_machine.specs.Staying.{IsBefore, Stays}
use Rattle.cell_machine.proofs.Staying.{body_stays}
use Rattle.dictionary.specs.Words.{Kind, Primitive, Colon, Created, Constant, Vocabulary, last_from, with_immediate, with_part, with_kind, kind_with, before}
use Rattle.dictionary.specs.Dictionary.{Named, body_of, body_of_word}
use Rattle.compiler.specs.Definition.{Body}
use Rattle.lexicon.specs.Language.{Part, ForthWord, cells_of, used_cells}
use Rattle.lexicon.specs.Stands.{KindStands, WordStands, WordsStand, is_primitive}

module _ (code : List ℕ) (owner_at : ℕ → ℕ) where
  pub words-length : (k p : ℕ) (given : List Named) (words : List ForthWord) → WordsStand code owner_at k p given words → length given ≡ length words
  words-length k p [] [] h = refl
  words-length k p [] (w ∷ words) h = absurd h
  words-length k p (g ∷ given) [] h = absurd h
  words-length k p (g ∷ given) (w ∷ words) h = ap suc (words-length (suc k) (p + cells_of w.kind) given words h.1)

  -- the search sees names and vocabularies alone
  pub words-last : (k p : ℕ) (given : List Named) (words : List ForthWord) (v : ℕ) (name : List ℕ) → WordsStand code owner_at k p given words → last_from k given v name ≡ last_from k words v name
  words-last k p [] [] v name h = refl
  words-last k p [] (w ∷ words) v name h = absurd h
  words-last k p (g ∷ given) [] v name h = absurd h
  words-last k p (g ∷ given) (w ∷ words) v name h =
      rw (h.0.vocabulary, h.0.name, words-last (suc k) (p + cells_of w.kind) given words v name h.1) refl

  -- a word's place in both lists
  abbrev pub EntryStands : (k p : ℕ) → Option Named → Option ForthWord → Type 0
  EntryStands k p None None = Unit {0}
  EntryStands k p (Some g) (Some w) = WordStands code owner_at k p g w
  EntryStands k p _ _ = ⊥

  pub words-at : (n k p : ℕ) (given : List Named) (words : List ForthWord) → WordsStand code owner_at k p given words → EntryStands (k + n) (p + used_cells (take n words)) (slice_get given n) (slice_get words n)
  words-at n k p [] [] h = tt
  words-at n k p [] (w ∷ words) h = absurd h
  words-at n k p (g ∷ given) [] h = absurd h
  words-at zero k p (g ∷ given) (w ∷ words) h =
      subst (λ (j : ℕ). WordStands code owner_at j (p + 0) g w) (omega arith) (subst (λ (q : ℕ). WordStands code owner_at k q g w) (omega arith) h.0)
  words-at (suc n) k p (g ∷ given) (w ∷ words) h =
      let r = words-at n (suc k) (p + cells_of w.kind) given words h.1 in
      subst (λ (j : ℕ). EntryStands j (p + used_cells (take (suc n) (w ∷ words))) (slice_get given n) (slice_get words n)) (omega arith)
      (subst (λ (q : ℕ). EntryStands (suc k + n) q (slice_get given n) (slice_get words n)) (omega arith) r)

  pub words-append : (k p : ℕ) (given : List Named) (words : List ForthWord) (g : Named) (w : ForthWord) → WordsStand code owner_at k p given words → WordStands code owner_at (k + length words) (p + used_cells words) g w → WordsStand code owner_at k p (given ++ g ∷ []) (words ++ w ∷ [])
  words-append k p [] [] g w h e =
      (subst (λ (j : ℕ). WordStands code owner_at j p g w) (omega arith) (subst (λ (q : ℕ). WordStands code owner_at (k + 0) q g w) (omega arith) e), tt)
  words-append k p [] (v ∷ words) g w h e = absurd h
  words-append k p (f ∷ given) [] g w h e = absurd h
  words-append k p (f ∷ given) (v ∷ words) g w h e = (
    h.0,
    words-append (suc k) (p + cells_of v.kind) given words g w h.1
        (subst (λ (j : ℕ). WordStands code owner_at j (p + cells_of v.kind + used_cells words) g w) (omega arith)
        (subst (λ (q : ℕ). WordStands code owner_at (k + length (v ∷ words)) q g w) (omega arith) e)),
  )

  pub words-take : (n k p : ℕ) (given : List Named) (words : List ForthWord) → WordsStand code owner_at k p given words → WordsStand code owner_at k p (take n given) (take n words)
  words-take zero k p given words h = tt
  words-take (suc n) k p [] [] h = tt
  words-take (suc n) k p [] (w ∷ words) h = absurd h
  words-take (suc n) k p (g ∷ given) [] h = absurd h
  words-take (suc n) k p (g ∷ given) (w ∷ words) h = (h.0, words-take n (suc k) (p + cells_of w.kind) given words h.1)

  pub words-immediate : (k p : ℕ) (given : List Named) (words : List ForthWord) → WordsStand code owner_at k p given words → WordsStand code owner_at k p (with_immediate given) (with_immediate words)
  words-immediate k p [] [] h = tt
  words-immediate k p [] (w ∷ words) h = absurd h
  words-immediate k p (g ∷ given) [] h = absurd h
  words-immediate k p (g ∷ []) (w ∷ []) h = (record { name = h.0.name; vocabulary = h.0.vocabulary; immediate = refl; here = h.0.here; in_space = h.0.in_space; system = h.0.system; kind = h.0.kind }, tt)
  words-immediate k p (g ∷ []) (w ∷ v ∷ words) h = absurd h.1
  words-immediate k p (g ∷ f ∷ given) (w ∷ []) h = absurd h.1
  words-immediate k p (g ∷ f ∷ given) (w ∷ v ∷ words) h = (h.0, words-immediate (suc k) (p + cells_of w.kind) (f ∷ given) (v ∷ words) h.1)

  -- ---- where bodies begin

  kind-begins : (k p q : ℕ) (g : Kind ℕ ℕ) (w : Kind Body Part) → KindStands code owner_at k p g w → body_of g ≡ Some q → q ≡ p
  kind-begins k p q Primitive w h e = cc
  kind-begins k p q (Colon place) (Colon b) h e = let s : place ≡ q = cc in sym s ∙ h.0
  kind-begins k p q (Colon place) _ h e = absurd h
  kind-begins k p q (Created a part) w h e = cc
  kind-begins k p q (Constant n) w h e = cc
  kind-begins k p q Vocabulary w h e = cc

  kind-empty : (k p : ℕ) (g : Kind ℕ ℕ) (w : Kind Body Part) → KindStands code owner_at k p g w → body_of g ≡ None → cells_of w ≡ 0
  kind-empty k p g Primitive h e = refl
  kind-empty k p Primitive (Colon b) h e = absurd h
  kind-empty k p (Colon place) (Colon b) h e = cc
  kind-empty k p (Created a None) (Colon b) h e = absurd h
  kind-empty k p (Created a (Some q)) (Colon b) h e = absurd h
  kind-empty k p (Constant n) (Colon b) h e = absurd h
  kind-empty k p Vocabulary (Colon b) h e = absurd h
  kind-empty k p g (Created a part) h e = refl
  kind-empty k p g (Constant n) h e = refl
  kind-empty k p g Vocabulary h e = refl

  pub body-begins : (n k p q : ℕ) (given : List Named) (words : List ForthWord) → WordsStand code owner_at k p given words → body_of_word (slice_get given n) ≡ Some q → q ≡ p + used_cells (take n words)
  body-begins n k p q [] [] h e = cc
  body-begins n k p q [] (w ∷ words) h e = absurd h
  body-begins n k p q (g ∷ given) [] h e = absurd h
  body-begins zero k p q (g ∷ given) (w ∷ words) h e = kind-begins k p q g.kind w.kind h.0.kind e ∙ omega arith
  body-begins (suc n) k p q (g ∷ given) (w ∷ words) h e = body-begins n (suc k) (p + cells_of w.kind) q given words h.1 e ∙ omega arith

  pub no-body : (n k p : ℕ) (given : List Named) (words : List ForthWord) → WordsStand code owner_at k p given words → body_of_word (slice_get given n) ≡ None → used_cells (take (suc n) words) ≡ used_cells (take n words)
  no-body n k p [] [] h e = take-none n
    where
      take-none : (n : ℕ) → used_cells (take (suc n) []) ≡ used_cells (take n [])
      take-none zero = refl
      take-none (suc n) = refl
  no-body n k p [] (w ∷ words) h e = absurd h
  no-body n k p (g ∷ given) [] h e = absurd h
  no-body zero k p (g ∷ given) (w ∷ words) h e = let z = kind-empty k p g.kind w.kind h.0.kind e in omega (arith, z)
  no-body (suc n) k p (g ∷ given) (w ∷ words) h e = let r = no-body n (suc k) (p + cells_of w.kind) given words h.1 e in omega (arith, r)

  -- ---- a part for the last word

  abbrev pub PartStands : (k p : ℕ) → Option (List Named) → Option (List ForthWord) → Type 0
  PartStands k p None None = Unit {0}
  PartStands k p (Some given) (Some words) = WordsStand code owner_at k p given words
  PartStands k p _ _ = ⊥

  before-stands : (k p : ℕ) (g : Named) (w : ForthWord) (o : Option (List Named)) (q : Option (List ForthWord)) → WordStands code owner_at k p g w → PartStands (suc k) (p + cells_of w.kind) o q → PartStands k p (before g o) (before w q)
  before-stands k p g w None None e h = tt
  before-stands k p g w None (Some words) e h = absurd h
  before-stands k p g w (Some given) None e h = absurd h
  before-stands k p g w (Some given) (Some words) e h = (e, h)

  module _ (place : ℕ) (part : Part) (body : BodyAt code owner_at part.owner place part.parts) where
    kind-part : (k p : ℕ) (g : Named) (w : ForthWord) (gk : Kind ℕ ℕ) (wk : Kind Body Part) → WordStands code owner_at k p g w → wk ≡ w.kind → KindStands code owner_at k p gk wk → ((more : List ForthWord) → with_kind w (kind_with part wk) ≡ Some more → IsBefore k part.owner) → PartStands k p (with_kind g (kind_with place gk)) (with_kind w (kind_with part wk))
    kind-part k p g w Primitive Primitive e is h older = tt
    kind-part k p g w (Colon q) (Colon b) e is h older = tt
    kind-part k p g w (Created a None) (Created d None) e is h older =
        (record { name = e.name; vocabulary = e.vocabulary; immediate = e.immediate; here = e.here; in_space = e.in_space; system = ap is_primitive is ∙ e.system; kind = (h, older _ refl, body) }, tt)
    kind-part k p g w (Created a (Some q)) (Created d (Some r)) e is h older =
        (record { name = e.name; vocabulary = e.vocabulary; immediate = e.immediate; here = e.here; in_space = e.in_space; system = ap is_primitive is ∙ e.system; kind = (h.0, older _ refl, body) }, tt)
    kind-part k p g w (Constant n) (Constant m) e is h older = tt
    kind-part k p g w Vocabulary Vocabulary e is h older = tt
    kind-part k p g w _ _ e is h older = absurd h

    pub words-part : (k p : ℕ) (given : List Named) (words : List ForthWord) → WordsStand code owner_at k p given words → ((more : List ForthWord) → with_part words part ≡ Some more → (0 < part.owner) × (suc part.owner < k + length words)) → PartStands k p (with_part given place) (with_part words part)
    words-part k p [] [] h older = tt
    words-part k p [] (w ∷ words) h older = absurd h
    words-part k p (g ∷ given) [] h older = absurd h
    words-part k p (g ∷ []) (w ∷ []) h older =
        kind-part k p g w g.kind w.kind h.0 refl h.0.kind (λ more e. let b = older more e in record { above = b.0; below = omega (arith, b.1) })
    words-part k p (g ∷ []) (w ∷ v ∷ words) h older = absurd h.1
    words-part k p (g ∷ f ∷ given) (w ∷ []) h older = absurd h.1
    words-part k p (g ∷ f ∷ given) (w ∷ v ∷ words) h older =
        before-stands k p g w (with_part (f ∷ given) place) (with_part (v ∷ words) part) h.0
        (words-part (suc k) (p + cells_of w.kind) (f ∷ given) (v ∷ words) h.1
        (λ more e. let b = older (w ∷ more) (ap (λ o. before w o) e) in (b.0, omega (arith, b.1))))

-- ---- in changed cells

module _ (past : ℕ) (code : List ℕ) (owner_at : ℕ → ℕ) (code' : List ℕ) (owner_at' : ℕ → ℕ) (s : Stays past code owner_at code' owner_at') where
  pub kind-stays : (k p : ℕ) (g : Kind ℕ ℕ) (w : Kind Body Part) → IsBefore past k → KindStands code owner_at k p g w → KindStands code' owner_at' k p g w
  kind-stays k p Primitive Primitive b h = tt
  kind-stays k p (Colon place) (Colon body) b h =
      (h.0, body_stays past code owner_at code' owner_at' s k place body.parts b h.1)
  kind-stays k p (Created a None) (Created d None) b h = h
  kind-stays k p (Created a (Some place)) (Created d (Some part)) b h =
      (h.0, h.1, body_stays past code owner_at code' owner_at' s part.owner place part.parts (record { above = h.1.above; below = omega (arith, h.1.below, b.below) }) h.2)
  kind-stays k p (Constant n) (Constant m) b h = h
  kind-stays k p Vocabulary Vocabulary b h = tt
  kind-stays k p _ _ b h = absurd h

  pub word-stays : (k p : ℕ) (g : Named) (w : ForthWord) → IsBefore past k → WordStands code owner_at k p g w → WordStands code' owner_at' k p g w
  word-stays k p g w b h =
      record { name = h.name; vocabulary = h.vocabulary; immediate = h.immediate; here = h.here; in_space = h.in_space; system = h.system; kind = kind-stays k p g.kind w.kind b h.kind }

  pub words-stay : (k p : ℕ) (given : List Named) (words : List ForthWord) → 0 < k → k + length words ≤ past → WordsStand code owner_at k p given words → WordsStand code' owner_at' k p given words
  words-stay k p [] [] a b h = tt
  words-stay k p [] (w ∷ words) a b h = absurd h
  words-stay k p (g ∷ given) [] a b h = absurd h
  words-stay k p (g ∷ given) (w ∷ words) a b h = (
    word-stays k p g w (record { above = a; below = omega arith }) h.0,
    words-stay (suc k) (p + cells_of w.kind) given words (omega arith) (omega arith) h.1,
  )
