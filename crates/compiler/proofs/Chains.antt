-- The chain of the cells in which the LEAVEs of a loop wait, and what it is to write into each of them.
use Rattle.std.proofs.Common.{◌≡◌, ◌≢◌, ℕ, ◌<◌, ◌≤◌, List, [], ◌∷◌, refl, sym, ap, ◌∙◌, subst, arith, inl, inr, ⊎_elim}
use Rattle.std.specs.Prelude.{slice_index}
use Rattle.cell_machine.specs.Layout.{IsIn}
use Rattle.compiler.specs.Represents.{Chain, Patched}
use Rattle.compiler.proofs.Grows.{chain_kept}

pub chain_below : (code : List ℕ) (ls : List ℕ) (last : ℕ) → Chain code ls last → (y : ℕ) → IsIn y ls → y ≤ last
chain_below code [] last h y i = absurd i
chain_below code (x ∷ xs) last h y (inl e) = let l : last ≡ x = h.0 in omega arith
chain_below code (x ∷ xs) last h y (inr i) =
    let l : last ≡ x = h.0 in let d : slice_index code x < x = h.1 in let k : y ≤ slice_index code x = chain_below code xs _ h.2 y i in omega arith

pub chain_unique : (code : List ℕ) (ls ws : List ℕ) (last : ℕ) → Chain code ls last → Chain code ws last → ls ≡ ws
chain_unique code [] [] last h k = refl
chain_unique code [] (y ∷ ys) last h k = let a : last ≡ 0 = h in let b : last ≡ y = k.0 in let d : slice_index code y < y = k.1 in absurd (omega arith)
chain_unique code (x ∷ xs) [] last h k = let a : last ≡ 0 = k in let b : last ≡ x = h.0 in let d : slice_index code x < x = h.1 in absurd (omega arith)
chain_unique code (x ∷ xs) (y ∷ ys) last h k =
    let e : x ≡ y = sym h.0 ∙ k.0 in
    let rest : xs ≡ ys = chain_unique code xs ys (slice_index code x) h.2 (subst (λ n. Chain code ys (slice_index code n)) (sym e) k.2) in
    cc

-- the chain of a place that isn't 0 begins there
pub chain_from : (code : List ℕ) (ls : List ℕ) (last : ℕ) → last ≢ 0 → Chain code ls last → (rest : List ℕ) × ((ls ≡ last ∷ rest) × (slice_index code last < last) × Chain code rest (slice_index code last))
chain_from code [] last n h = absurd (n h)
chain_from code (y ∷ ys) last n h =
    let e : last ≡ y = h.0 in
    (ys, (ap (λ z. z ∷ ys) (sym e), subst (λ z. slice_index code z < z) (sym e) h.1, subst (λ z. Chain code ys (slice_index code z)) (sym e) h.2))

-- the chain up to a place below the cell that is written stays
pub chain_past : (old new : List ℕ) (ls : List ℕ) (last x : ℕ) → last < x → ((y : ℕ) → y ≢ x → slice_index new y ≡ slice_index old y) → Chain old ls last → Chain new ls last
chain_past old new ls last x h others c =
    chain_kept old new ls last (λ y i. let k : y ≤ last = chain_below old ls last c y i in let n : y ≢ x = omega arith in others y n) c

-- one of them is written, and then the rest
pub patched_more : (old mid new : List ℕ) (x to : ℕ) (ls : List ℕ) → ((y : ℕ) → IsIn y ls → y < x) → slice_index mid x ≡ to → ((y : ℕ) → y ≢ x → slice_index mid y ≡ slice_index old y) → Patched mid ls to new → Patched old (x ∷ ls) to new
patched_more old mid new x to ls below stored others p =
    let apart : IsIn x ls → ⊥ = λ i. let k : x < x = below x i in absurd (omega arith) in
    record {
      there = λ y i. ⊎_elim (λ e. subst (λ z. slice_index new z ≡ to) (sym e) (p.others x apart ∙ stored)) (λ j. p.there y j) i;
      others = λ y n. let ne : y ≢ x = λ e. n (inl e) in p.others y (λ j. n (inr j)) ∙ others y ne;
    }
