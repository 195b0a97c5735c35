-- The last word of a text.
use Rattle.std.proofs.Common.{◌≡◌, ◌≢◌, ◌<◌, ◌-◌, ◌∙◌, ℕ, zero, suc, ◌==◌, if◌then◌else◌, true, false, List, length, refl, ap, sym, arith}
use Rattle.std.proofs.lemmas.Bool.Decides.{nat_tests}
use Rattle.std.specs.Prelude.{Bool, slice_index_or}
use Rattle.interpreter.specs.Told.{word_end, word_start}

if_true : {A : Type 0} (b : Bool) (x y : A) → b ≡ true → (if b then x else y) ≡ x
if_true true x y is = refl
if_true false x y is = absurd (cc)

if_false : {A : Type 0} (b : Bool) (x y : A) → b ≡ false → (if b then x else y) ≡ y
if_false false x y is = refl
if_false true x y is = absurd (cc)

blank_at : (text : List ℕ) (k n : ℕ) → n ≡ k → slice_index_or text n 0 ≡ 32 → (slice_index_or text k 0 == 32) ≡ true
blank_at text k n same is =
    let here : slice_index_or text k 0 ≡ 32 = ap (λ i. slice_index_or text i 0) (sym same) ∙ is in
    grind (arith, nat_tests)

other_at : (text : List ℕ) (k n : ℕ) → n ≡ k → slice_index_or text n 0 ≢ 32 → (slice_index_or text k 0 == 32) ≡ false
other_at text k n same is =
    let here : slice_index_or text k 0 ≢ 32 = λ e. is (ap (λ i. slice_index_or text i 0) same ∙ e) in
    grind (arith, nat_tests)

pub end_none : (count : ℕ) (text : List ℕ) → count ≡ 0 → word_end count text ≡ 0
unfolding word_end
end_none zero text none = refl
end_none (suc k) text none = absurd (omega (arith, none))

pub end_blank : (count : ℕ) (text : List ℕ) → 0 < count → slice_index_or text (count - 1) 0 ≡ 32 → word_end count text ≡ word_end (count - 1) text
unfolding word_end
end_blank zero text some is = absurd (omega (arith, some))
end_blank (suc k) text some is =
    let one : suc k - 1 ≡ k = omega arith in
    if_true (slice_index_or text k 0 == 32) (word_end k text) (suc k) (blank_at text k (suc k - 1) one is) ∙ ap (λ n. word_end n text) (sym one)

pub end_here : (count : ℕ) (text : List ℕ) → 0 < count → slice_index_or text (count - 1) 0 ≢ 32 → word_end count text ≡ count
unfolding word_end
end_here zero text some is = absurd (omega (arith, some))
end_here (suc k) text some is =
    let one : suc k - 1 ≡ k = omega arith in
    if_false (slice_index_or text k 0 == 32) (word_end k text) (suc k) (other_at text k (suc k - 1) one is)

pub start_none : (end : ℕ) (text : List ℕ) → end ≡ 0 → word_start end text ≡ 0
unfolding word_start
start_none zero text none = refl
start_none (suc k) text none = absurd (omega (arith, none))

pub start_here : (end : ℕ) (text : List ℕ) → 0 < end → slice_index_or text (end - 1) 0 ≡ 32 → word_start end text ≡ end
unfolding word_start
start_here zero text some is = absurd (omega (arith, some))
start_here (suc k) text some is =
    let one : suc k - 1 ≡ k = omega arith in
    if_true (slice_index_or text k 0 == 32) (suc k) (word_start k text) (blank_at text k (suc k - 1) one is)

pub start_before : (end : ℕ) (text : List ℕ) → 0 < end → slice_index_or text (end - 1) 0 ≢ 32 → word_start end text ≡ word_start (end - 1) text
unfolding word_start
start_before zero text some is = absurd (omega (arith, some))
start_before (suc k) text some is =
    let one : suc k - 1 ≡ k = omega arith in
    if_false (slice_index_or text k 0 == 32) (suc k) (word_start k text) (other_at text k (suc k - 1) one is) ∙ ap (λ n. word_start n text) (sym one)
