-- Bytes that come before those of a reader.
use Rattle.std.proofs.Common.{◌≡◌, ◌∙◌, ℕ, List, [], ◌++◌, Option, Some, None, Result, refl, sym, subst, ap, append_assoc}
use Rattle.std.specs.Io.KnownBytes.{ReadConsumes, prepend_known}
use Rattle.std.proofs.KnownBytes.{prepend_known-nil}

-- none are left of them
pub read_behind_none : {E : Type 0} (text text' : List ℕ) (a b : Option (List ℕ)) (r : Result ℕ E) (out : List ℕ) → text ≡ [] → text' ≡ []
    → ReadConsumes a b r out → ReadConsumes (prepend_known text a) (prepend_known text' b) r out
read_behind_none text text' a b r out none none' h =
    let old : prepend_known text a ≡ a = ap (λ l. prepend_known l a) none ∙ prepend_known-nil a in
    let new : prepend_known text' b ≡ b = ap (λ l. prepend_known l b) none' ∙ prepend_known-nil b in
    subst (λ x. ReadConsumes x (prepend_known text' b) r out) (sym old) (subst (λ y. ReadConsumes a y r out) (sym new) h)

-- some come before others
pub prepend_known-then : (text rest : List ℕ) (a : Option (List ℕ)) → prepend_known (text ++ rest) a ≡ prepend_known text (prepend_known rest a)
prepend_known-then text rest None = refl
prepend_known-then text rest (Some xs) = ap (λ l. Some l) (append_assoc text rest xs)
