-- The word that is built at HERE, part by part.
use Rattle.std.proofs.Common.{◌≡◌, ℕ, ◌+◌, ◌<◌, ◌≤◌, List, [], ◌∷◌, ◌++◌, length, take, ⊎_elim, sym, ap, ◌∙◌, arith}
use Rattle.std.specs.Prelude.{min}
use Rattle.std.proofs.lemmas.Bool.{cases_lt}
use Rattle.std.proofs.lemmas.List.{take-take, take_all, length-take-le, length-set}
use Rattle.data_space.specs.Space.{with_byte, with_bytes}
use Rattle.interpreter.specs.Text.{counted}
use Rattle.interpreter.proofs.Expecting.{with_one, with_then}

kept_of : (text : List ℕ) (count kept : ℕ) → kept ≡ min count 255 → length (take count text) ≡ count → (take 255 (take count text) ≡ take kept text) × (length (take kept text) ≡ kept)
kept_of text count kept is whole = ⊎_elim long short (cases_lt 255 count)
  where
    short : count ≤ 255 → (take 255 (take count text) ≡ take kept text) × (length (take kept text) ≡ kept)
    short le =
        let e : kept ≡ count = omega (arith, is, le) in
        (take_all 255 (take count text) (omega (arith, whole, le)) ∙ ap (λ n. take n text) (sym e), ap (λ n. length (take n text)) e ∙ whole ∙ sym e)

    long : 255 < count → (take 255 (take count text) ≡ take kept text) × (length (take kept text) ≡ kept)
    long more =
        let e : kept ≡ 255 = omega (arith, is, more) in
        let all : take 255 (take count text) ≡ take 255 text = take-take 255 count text (omega (arith, more)) in
        (all ∙ ap (λ n. take n text) (sym e), ap (λ n. length (take n text)) e ∙ ap length (sym all) ∙ length-take-le 255 (take count text) (omega (arith, whole, more)) ∙ sym e)

pub kept_length : (text : List ℕ) (count kept : ℕ) → kept ≡ min count 255 → length (take count text) ≡ count → length (take kept text) ≡ kept
kept_length text count kept is whole = (kept_of text count kept is whole).1

pub built_parts : (space s1 s2 s3 text : List ℕ) (here count kept : ℕ) → length s1 ≡ 65536 → length s2 ≡ 65536 → here ≤ 60928 → kept ≡ min count 255 → length (take count text) ≡ count
    → s1 ≡ with_byte space here kept → s2 ≡ with_bytes s1 (here + 1) (take kept text) → s3 ≡ with_byte s2 (here + 1 + kept) 32
    → s3 ≡ with_bytes space here (counted (take count text))
built_parts space s1 s2 s3 text here count kept size size2 within is whole first second third =
    let word : List ℕ = take kept text in
    let same : take 255 (take count text) ≡ word = (kept_of text count kept is whole).0 in
    let long : length word ≡ kept = (kept_of text count kept is whole).1 in
    let one : s1 ≡ with_bytes space here (kept ∷ []) = first ∙ with_one space here kept (omega (arith, size, within, ap length first, length-set space here kept)) in
    let two : s2 ≡ with_bytes space here (kept ∷ word) = second ∙ ap (λ s. with_bytes s (here + 1) word) one ∙ with_then space (kept ∷ []) word here in
    let at : here + 1 + kept ≡ here + length (kept ∷ word) = omega (arith, long) in
    third ∙ with_one s2 (here + 1 + kept) 32 (omega (arith, size2, within, is))
    ∙ (λ t. with_bytes (two t) (at t) (32 ∷ []))
    ∙ with_then space (kept ∷ word) (32 ∷ []) here
    ∙ (λ t. with_bytes space here (sym long t ∷ (word ++ 32 ∷ [])))
    ∙ ap (λ w. with_bytes space here (length w ∷ (w ++ 32 ∷ []))) (sym same)
