-- The blanks at the end of a text.
use Rattle.std.proofs.Common.{◌≡◌, ◌≢◌, ℕ, suc, ◌-◌, ◌<◌, ◌≤◌, false, List, [], ◌∷◌, ◌++◌, length, take, refl, sym, ap, ◌∙◌, arith, get_or}
use Rattle.std.specs.Prelude.{slice_index, if◌then◌else◌, ◌==◌, ◌&&◌}
use Rattle.std.proofs.lemmas.Bool.Decides.{nat_tests}
use Rattle.std.proofs.Math.Seq.{take-suc}
use Rattle.std.proofs.lemmas.List.{length-take}
use Rattle.data_space.specs.Blanks.{trimmed}

-- a list that ends with a byte that is no blank
trimmed_snoc : (s : List ℕ) (b : ℕ) → b ≢ 32 → trimmed (s ++ b ∷ []) ≡ suc (length s)
trimmed_snoc [] b h = let e : (b == 32) ≡ false = grind (arith, nat_tests) in ap (λ t. if t then 0 else 1) e
trimmed_snoc (x ∷ s) b h =
    let e : (suc (length s) == 0) ≡ false = grind (arith, nat_tests) in
    ap (λ n. if n == 0 && x == 32 then 0 else suc n) (trimmed_snoc s b h) ∙ ap (λ t. if t && x == 32 then 0 else suc (suc (length s))) e

trimmed_more : (s : List ℕ) → trimmed (s ++ 32 ∷ []) ≡ trimmed s
trimmed_more [] = refl
trimmed_more (x ∷ s) = ap (λ n. if n == 0 && x == 32 then 0 else suc n) (trimmed_more s)

cut : (bytes : List ℕ) (count : ℕ) → 0 < count → count ≤ length bytes → take count bytes ≡ take (count - 1) bytes ++ (get_or bytes (count - 1) 0 ∷ [])
cut bytes count h l = let e : count ≡ suc (count - 1) = omega arith in ap (λ k. take k bytes) e ∙ take-suc bytes (count - 1) 0 (omega arith)

pub trimmed_blank : (bytes : List ℕ) (count : ℕ) → 0 < count → count ≤ length bytes → slice_index bytes (count - 1) ≡ 32 → trimmed (take count bytes) ≡ trimmed bytes → trimmed (take (count - 1) bytes) ≡ trimmed bytes
trimmed_blank bytes count h l b e =
    sym (trimmed_more (take (count - 1) bytes)) ∙ ap (λ w. trimmed (take (count - 1) bytes ++ w ∷ [])) (sym b) ∙ ap trimmed (sym (cut bytes count h l)) ∙ e

pub trimmed_last : (bytes : List ℕ) (count : ℕ) → 0 < count → count ≤ length bytes → slice_index bytes (count - 1) ≢ 32 → trimmed (take count bytes) ≡ trimmed bytes → count ≡ trimmed bytes
trimmed_last bytes count h l b e =
    let k : length (take (count - 1) bytes) ≡ count - 1 = length-take (count - 1) bytes ∙ omega arith in
    let f : suc (length (take (count - 1) bytes)) ≡ count = omega (arith, k) in
    sym (sym e ∙ ap trimmed (cut bytes count h l) ∙ trimmed_snoc (take (count - 1) bytes) (get_or bytes (count - 1) 0) b ∙ f)
