-- The input among the names of files.
use Rattle.std.proofs.Common.{◌≡◌, ◌≢◌, ◌∙◌, ℕ, suc, Bool, true, false, List, [], ◌∷◌, ◌++◌, length, ap, sym}
use Rattle.std.proofs.lemmas.List.{map-append}
use Rattle.std.specs.Bool.{OnTrue, OnFalse}
use Rattle.std.specs.Borrow.{Bor}
use Rattle.std.specs.Prelude.{map}
use Rattle.clap.specs.Words.{Text}
use Rattle.command_line.specs.Commands.{input}

abbrev named : List (Bor Text) → List Text
named names = map (λ text. text.now) names

none_behind : (xs : List Text) (a : Text) → [] ≡ xs ++ a ∷ [] → ⊥
none_behind [] a is = cc
none_behind (x ∷ xs) a is = cc

last_is : (xs ys : List Text) (a b : Text) → xs ++ a ∷ [] ≡ ys ++ b ∷ [] → a ≡ b
last_is [] [] a b is = cc
last_is [] (y ∷ ys) a b is = absurd (none_behind ys b (let rest : [] ≡ ys ++ b ∷ [] = cc in rest))
last_is (x ∷ xs) [] a b is = absurd (none_behind xs a (let rest : [] ≡ xs ++ a ∷ [] = cc in rest))
last_is (x ∷ xs) (y ∷ ys) a b is = last_is xs ys a b (let rest : xs ++ a ∷ [] ≡ ys ++ b ∷ [] = cc in rest)

by_last : (names rest : List (Bor Text)) (last : Bor Text) → names ≡ rest ++ last ∷ [] → named names ≡ named rest ++ last.now ∷ []
by_last names rest last is = ap named is ∙ map-append (λ (text : Bor Text). text.now) rest (last ∷ [])

-- ---- whether the last one is the input

pub ends : (names rest : List (Bor Text)) (last : Bor Text) (is : Bool) → names ≡ rest ++ last ∷ [] → OnTrue is (last.now ≡ input)
    → OnTrue is ((front : List Text) × (map (λ text. text.now) names ≡ front ++ input ∷ []))
ends names rest last true split same = (named rest, by_last names rest last split ∙ ap (λ t. named rest ++ t ∷ []) same)
ends names rest last false split same = tt

pub ends_not : (names rest : List (Bor Text)) (last : Bor Text) (is : Bool) → names ≡ rest ++ last ∷ [] → OnFalse is (last.now ≢ input)
    → OnFalse is ((front : List Text) → map (λ text. text.now) names ≢ front ++ input ∷ [])
ends_not names rest last true split other = tt
ends_not names rest last false split other = λ front whole. other (last_is (named rest) front last.now input (sym (by_last names rest last split) ∙ whole))

pub none_ends : (names : List (Bor Text)) → length names ≡ 0 → (front : List Text) → map (λ text. text.now) names ≢ front ++ input ∷ []
none_ends [] none front is = none_behind front input is
none_ends (name ∷ names) none front is = let no : suc (length names) ≡ 0 = none in cc
