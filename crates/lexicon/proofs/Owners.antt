-- Which word's body has a cell.
use Rattle.std.proofs.Common.{◌≡◌, ℕ, zero, suc, ◌+◌, ◌<◌, ◌≤◌, Bool, true, false, List, [], ◌∷◌, ◌++◌, length, take, inl, inr, refl, sym, ◌∙◌, ap, subst, arith, Option, Some, None}
use Rattle.std.specs.Prelude.{nat_lt, if◌then◌else◌}
use Rattle.std.proofs.lemmas.Bool.{cases_lt}
use Rattle.std.proofs.lemmas.Bool.Decides.{nat_tests}
use Rattle.dictionary.specs.Words.{Kind, Primitive, Colon, Created, Constant, Vocabulary, with_immediate, with_part, with_kind, kind_with, before}
use Rattle.compiler.specs.Definition.{Body}
use Rattle.lexicon.specs.Language.{Part, ForthWord, cells_of, used_cells}
use Rattle.lexicon.specs.Stands.{owner_from}

-- ---- the cells that words take

pub used-append : (words more : List ForthWord) → used_cells (words ++ more) ≡ used_cells words + used_cells more
used-append [] more = omega arith
used-append (w ∷ words) more = let e = used-append words more in omega (arith, e)

pub used-one : (w : ForthWord) → used_cells (w ∷ []) ≡ cells_of w.kind
used-one w = omega arith

pub used-take : (n : ℕ) (words : List ForthWord) → used_cells (take n words) ≤ used_cells words
used-take zero words = omega arith
used-take (suc n) [] = omega arith
used-take (suc n) (w ∷ words) = let e = used-take n words in omega (arith, e)

-- ---- the first word, and the others

test_true : (y q : ℕ) → y < q → nat_lt y q ≡ true
test_true y q h = grind (arith, nat_tests)

test_false : (y q : ℕ) → q ≤ y → nat_lt y q ≡ false
test_false y q h = grind (arith, nat_tests)

pub owner-here : (k p : ℕ) (w : ForthWord) (words : List ForthWord) (y : ℕ) → y < p + cells_of w.kind → owner_from k p (w ∷ words) y ≡ k
owner-here k p w words y h = ap (λ (b : Bool). if b then k else owner_from (suc k) (p + cells_of w.kind) words y) (test_true y (p + cells_of w.kind) h)

pub owner-later : (k p : ℕ) (w : ForthWord) (words : List ForthWord) (y : ℕ) → p + cells_of w.kind ≤ y → owner_from k p (w ∷ words) y ≡ owner_from (suc k) (p + cells_of w.kind) words y
owner-later k p w words y h = ap (λ (b : Bool). if b then k else owner_from (suc k) (p + cells_of w.kind) words y) (test_false y (p + cells_of w.kind) h)

-- a cell of none of these words
pub owner-none : (k p : ℕ) (words : List ForthWord) (y : ℕ) → p + used_cells words ≤ y → owner_from k p words y ≡ 0
owner-none k p [] y h = refl
owner-none k p (w ∷ words) y h =
    owner-later k p w words y (omega arith) ∙ owner-none (suc k) (p + cells_of w.kind) words y (omega arith)

-- the owner of one of their cells is one of them
pub owner-some : (k p : ℕ) (words : List ForthWord) (y : ℕ) → p ≤ y → y < p + used_cells words → (k ≤ owner_from k p words y) × (owner_from k p words y < k + length words)
owner-some k p [] y a b = absurd (omega arith)
owner-some k p (w ∷ words) y a b =
    elim (cases_lt y (p + cells_of w.kind)) as (λ s. (k ≤ owner_from k p (w ∷ words) y) × (owner_from k p (w ∷ words) y < k + length (w ∷ words))) [
      | inl h ↦ let e = owner-here k p w words y h in (omega (arith, e), omega (arith, e))
      | inr h ↦
          let e = owner-later k p w words y h in
          let r = owner-some (suc k) (p + cells_of w.kind) words y h (omega arith) in
          (omega (arith, e, r.0), omega (arith, e, r.1))
    ]

-- so a word of theirs owns only cells before their end
pub owner-below : (k p : ℕ) (words : List ForthWord) (y : ℕ) → 0 < owner_from k p words y → y < p + used_cells words
owner-below k p words y h =
    elim (cases_lt y (p + used_cells words)) as (λ s. y < p + used_cells words) [
      | inl l ↦ l
      | inr l ↦ let e = owner-none k p words y l in absurd (omega (arith, e))
    ]

-- ---- more words behind them, and fewer

pub owner-append : (k p : ℕ) (words more : List ForthWord) (y : ℕ) → p ≤ y → y < p + used_cells words → owner_from k p (words ++ more) y ≡ owner_from k p words y
owner-append k p [] more y a b = absurd (omega arith)
owner-append k p (w ∷ words) more y a b =
    elim (cases_lt y (p + cells_of w.kind)) as (λ s. owner_from k p ((w ∷ words) ++ more) y ≡ owner_from k p (w ∷ words) y) [
      | inl h ↦ owner-here k p w (words ++ more) y h ∙ sym (owner-here k p w words y h)
      | inr h ↦
          owner-later k p w (words ++ more) y h ∙ owner-append (suc k) (p + cells_of w.kind) words more y h (omega arith)
          ∙ sym (owner-later k p w words y h)
    ]

pub owner-last : (k p : ℕ) (words : List ForthWord) (w : ForthWord) (y : ℕ) → p + used_cells words ≤ y → y < p + used_cells words + cells_of w.kind → owner_from k p (words ++ w ∷ []) y ≡ k + length words
owner-last k p [] w y a b = owner-here k p w [] y (omega arith) ∙ omega arith
owner-last k p (v ∷ words) w y a b =
    owner-later k p v (words ++ w ∷ []) y (omega arith) ∙ owner-last (suc k) (p + cells_of v.kind) words w y (omega arith) (omega arith)
    ∙ omega arith

pub owner-take : (k p n : ℕ) (words : List ForthWord) (y : ℕ) → p ≤ y → y < p + used_cells (take n words) → owner_from k p (take n words) y ≡ owner_from k p words y
owner-take k p zero words y a b = absurd (omega arith)
owner-take k p (suc n) [] y a b = refl
owner-take k p (suc n) (w ∷ words) y a b =
    elim (cases_lt y (p + cells_of w.kind)) as (λ s. owner_from k p (w ∷ take n words) y ≡ owner_from k p (w ∷ words) y) [
      | inl h ↦ owner-here k p w (take n words) y h ∙ sym (owner-here k p w words y h)
      | inr h ↦
          owner-later k p w (take n words) y h ∙ owner-take (suc k) (p + cells_of w.kind) n words y h (omega arith)
          ∙ sym (owner-later k p w words y h)
    ]

-- the cells of the words from one on lie behind those of the words before it
pub owner-from_one : (k p n : ℕ) (words : List ForthWord) (y : ℕ) → p + used_cells (take n words) ≤ y → 0 < owner_from k p words y → k + n ≤ owner_from k p words y
owner-from_one k p zero words y a h =
    let b = owner-below k p words y h in
    let r = owner-some k p words y (omega arith) b in
    omega (arith, r.0)
owner-from_one k p (suc n) [] y a h = absurd (omega arith)
owner-from_one k p (suc n) (w ∷ words) y a h =
    let e = owner-later k p w words y (omega arith) in
    let r = owner-from_one (suc k) (p + cells_of w.kind) n words y (omega arith) (omega (arith, e)) in
    omega (arith, e, r)

-- ---- other words with bodies of the same sizes

abbrev pub Alike : List ForthWord → List ForthWord → Type 0
Alike [] [] = Unit {0}
Alike (w ∷ words) (v ∷ others) = (cells_of w.kind ≡ cells_of v.kind) × Alike words others
Alike _ _ = ⊥

pub alike-same : (words : List ForthWord) → Alike words words
alike-same [] = tt
alike-same (w ∷ words) = (refl, alike-same words)

pub alike-length : (words others : List ForthWord) → Alike words others → length words ≡ length others
alike-length [] [] h = refl
alike-length [] (v ∷ others) h = absurd h
alike-length (w ∷ words) [] h = absurd h
alike-length (w ∷ words) (v ∷ others) h = ap suc (alike-length words others h.1)

pub alike-used : (words others : List ForthWord) → Alike words others → used_cells words ≡ used_cells others
alike-used [] [] h = refl
alike-used [] (v ∷ others) h = absurd h
alike-used (w ∷ words) [] h = absurd h
alike-used (w ∷ words) (v ∷ others) h = let e = alike-used words others h.1 in omega (arith, e, h.0)

pub alike-owner : (k p : ℕ) (words others : List ForthWord) (y : ℕ) → Alike words others → owner_from k p words y ≡ owner_from k p others y
alike-owner k p [] [] y h = refl
alike-owner k p [] (v ∷ others) y h = absurd h
alike-owner k p (w ∷ words) [] y h = absurd h
alike-owner k p (w ∷ words) (v ∷ others) y h =
    ap (λ (n : ℕ). if nat_lt y (p + n) then k else owner_from (suc k) (p + n) words y) h.0
    ∙ ap (λ (o : ℕ). if nat_lt y (p + cells_of v.kind) then k else o) (alike-owner (suc k) (p + cells_of v.kind) words others y h.1)

pub alike-immediate : (words : List ForthWord) → Alike words (with_immediate words)
alike-immediate [] = tt
alike-immediate (w ∷ []) = (refl, tt)
alike-immediate (w ∷ v ∷ words) = (refl, alike-immediate (v ∷ words))

alike-before : (w : ForthWord) (words : List ForthWord) (o : Option (List ForthWord)) (more : List ForthWord) → ((others : List ForthWord) → o ≡ Some others → Alike words others) → before w o ≡ Some more → Alike (w ∷ words) more
alike-before w words None more h e = cc
alike-before w words (Some others) [] h e = cc
alike-before w words (Some others) (v ∷ more) h e =
    let a : w ≡ v = cc in let b : others ≡ more = cc in
    (ap (λ (u : ForthWord). cells_of u.kind) a, subst (λ (l : List ForthWord). Alike words l) b (h others refl))

-- only a word without cells gets a part
alike-kind : (w : ForthWord) (kind : Kind Body Part) (part : Part) (more : List ForthWord) → kind ≡ w.kind → with_kind w (kind_with part kind) ≡ Some more → Alike (w ∷ []) more × (cells_of w.kind ≡ 0)
alike-kind w Primitive part more is e = cc
alike-kind w (Colon b) part more is e = cc
alike-kind w (Created a p) part [] is e = cc
alike-kind w (Created a p) part (v ∷ u ∷ more) is e = cc
alike-kind w (Created a p) part (v ∷ []) is e =
    let z : cells_of w.kind ≡ 0 = sym (ap cells_of is) in
    let s : record w { kind = Created a (Some part) } ≡ v = cc in
    ((z ∙ ap (λ (u : ForthWord). cells_of u.kind) s, tt), z)
alike-kind w (Constant n) part more is e = cc
alike-kind w Vocabulary part more is e = cc

pub alike-part : (words : List ForthWord) (part : Part) (more : List ForthWord) → with_part words part ≡ Some more → Alike words more
alike-part [] part more e = cc
alike-part (w ∷ []) part more e = (alike-kind w w.kind part more refl e).0
alike-part (w ∷ v ∷ words) part more e =
    alike-before w (v ∷ words) (with_part (v ∷ words) part) more (λ others h. alike-part (v ∷ words) part others h) e

-- the last word then owns no cell
before-some : (w : ForthWord) (o : Option (List ForthWord)) (more : List ForthWord) → before w o ≡ Some more → (others : List ForthWord) × (o ≡ Some others)
before-some w None more e = cc
before-some w (Some others) more e = (others, refl)

pub part-owner : (k p : ℕ) (words : List ForthWord) (part : Part) (more : List ForthWord) (y : ℕ) → with_part words part ≡ Some more → p ≤ y → 0 < owner_from k p words y → suc (owner_from k p words y) < k + length words
part-owner k p [] part more y e a b = cc
part-owner k p (w ∷ []) part more y e a b =
    let z = (alike-kind w w.kind part more refl e).1 in
    let n = owner-later k p w [] y (omega (arith, z)) in
    absurd (omega (arith, n, b))
part-owner k p (w ∷ v ∷ words) part more y e a b =
    elim (cases_lt y (p + cells_of w.kind)) as (λ s. suc (owner_from k p (w ∷ v ∷ words) y) < k + length (w ∷ v ∷ words)) [
      | inl h ↦ let n = owner-here k p w (v ∷ words) y h in omega (arith, n)
      | inr h ↦
          let n = owner-later k p w (v ∷ words) y h in
          let s = before-some w (with_part (v ∷ words) part) more e in
          let r = part-owner (suc k) (p + cells_of w.kind) (v ∷ words) part s.0 y s.1 h (omega (arith, n)) in
          omega (arith, n, r)
    ]
