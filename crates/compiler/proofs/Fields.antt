-- The compiler's fields after a structure has ended.
use Rattle.std.proofs.Common.{◌≡◌, ℕ, List, ◌∷◌, drop, ap, ◌∙◌, Option, Some}
use Rattle.std.specs.Prelude.{unwrap_or}
use Rattle.compiler.specs.declared.opens.Open.{Open}
use Rattle.compiler.specs.declared.definition.Compiler.{Compiler}

after_closing : (s p : Compiler) (o : Open) (rest after : List Open) (here : ℕ) → p ≡ record s { here = here } → after ≡ drop 1 p.opens → s.opens ≡ o ∷ rest → after ≡ rest
after_closing s p o rest after here e a is = a ∙ ap (λ (n : Compiler). drop 1 n.opens) e ∙ ap (drop 1) is

pub closed_fields : (s p : Compiler) (o : Open) (rest after : List Open) (here : ℕ) → p ≡ record s { here = here } → after ≡ drop 1 p.opens → s.opens ≡ o ∷ rest → record p { opens = after } ≡ record s { opens = rest; here = here }
closed_fields s p o rest after here e a is =
    ap (λ (n : Compiler). record n { opens = after }) e ∙ ap (λ (l : List Open). record s { opens = l; here = here }) (after_closing s p o rest after here e a is)

pub left_fields : (s p : Compiler) (o : Open) (rest after : List Open) (here : ℕ) (outer : Option ℕ) → p ≡ record s { here = here } → after ≡ drop 1 p.opens → s.opens ≡ o ∷ rest → record p { leaves = outer; opens = after } ≡ record s { opens = rest; here = here; leaves = outer }
left_fields s p o rest after here outer e a is =
    ap (λ (n : Compiler). record n { leaves = outer; opens = after }) e ∙ ap (λ (l : List Open). record s { opens = l; here = here; leaves = outer }) (after_closing s p o rest after here e a is)

-- the last LEAVE that waits
pub last_of : (p s : Compiler) (here : ℕ) → p ≡ record s { here = here } → (own : ℕ) → s.leaves ≡ Some own → unwrap_or p.leaves 0 ≡ own
last_of p s here e own is = ap (λ (n : Compiler). unwrap_or n.leaves 0) e ∙ ap (λ l. unwrap_or l 0) is
