-- A system alone in what holds it.
use Rattle.std.proofs.Common.{◌≡◌, ◌∙◌, List, [], ◌∷◌, ◌++◌, Result, Ok, Err, sym}
use Rattle.std.specs.Prelude.{IfErr, IfOk}

pub only : {F : Type 0} (x system : F) (rest items : List F) → items ≡ rest ++ x ∷ [] → items ≡ system ∷ [] → x ≡ system
only x system [] items a b = let e : x ∷ [] ≡ system ∷ [] = sym a ∙ b in cc
only x system (y ∷ []) items a b = let e : y ∷ x ∷ [] ≡ system ∷ [] = sym a ∙ b in cc
only x system (y ∷ z ∷ rest) items a b = let e : y ∷ z ∷ (rest ++ x ∷ []) ≡ system ∷ [] = sym a ∙ b in cc

pub map_ok : {A E : Type 0} (r : Result A E) (P Q : A → Type 0) → ((a : A) → P a → Q a) → IfOk r P → IfOk r Q
map_ok (Ok a) P Q f p = f a p
map_ok (Err e) P Q f p = tt

pub map_err : {A E : Type 0} (r : Result A E) (P Q : E → Type 0) → ((e : E) → P e → Q e) → IfErr r P → IfErr r Q
map_err (Ok a) P Q f p = tt
map_err (Err e) P Q f p = f e p
