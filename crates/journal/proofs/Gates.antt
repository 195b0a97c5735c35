-- A gate of layout 3 is read as it was written, also where some of its bits changed.
use Rattle.std.proofs.Common.{◌≡◌, ◌≤◌, ◌++◌, List, ℕ, suc, zero, ◌+◌, Bool, true, false, length, take, drop, replicate, refl, sym, ◌∙◌, ap, arith, not, cond}
use Rattle.std.proofs.lemmas.Bool.{lt-ltb, le-ltb}
use Rattle.journal.specs.Layout.{count_below, listed}
use Rattle.std.proofs.lemmas.Bool.Decides.{Decides-eqb}
use Rattle.std.proofs.lemmas.Slice.Eq.{slice_eq-Decides}
use Rattle.std.proofs.Math.Seq.{take-append_seam}
use Rattle.journal.specs.PageLayout.{bit_differs, bits_apart, gate_word, gate_bytes, gate_open, gate_sum, is_gate_of, sum_in}

-- Two sectors differ in no more bits than both do from a third.
through : (a b c : List ℕ) (n : ℕ) → count_below (bit_differs b c) n ≤ count_below (bit_differs a b) n + count_below (bit_differs a c) n
through a b c zero = omega arith
through a b c (suc n) = one (listed a n) (listed b n) (listed c n) _ _ _ (through a b c n)
  where
    one : (x y z : Bool) (p q r : ℕ) → p ≤ q + r
        → cond (cond y (not z) z) (p + 1) p ≤ cond (cond x (not y) y) (q + 1) q + cond (cond x (not z) z) (r + 1) r
    one true true true p q r le = le
    one true true false p q r le = omega (arith, le)
    one true false true p q r le = omega (arith, le)
    one true false false p q r le = omega (arith, le)
    one false true true p q r le = omega (arith, le)
    one false true false p q r le = omega (arith, le)
    one false false true p q r le = omega (arith, le)
    one false false false p q r le = le

apart_through : (a b c : List ℕ) → bits_apart b c ≤ bits_apart a b + bits_apart a c
unfolding bits_apart
apart_through a b c = through a b c 64

-- so many bits lie between an open gate and a closed one
between : bits_apart (gate_word true) (gate_word false) ≡ 29
unfolding bits_apart
between = refl

-- A gate of which up to 14 of these bits changed is read as it was written.
pub at_rest : (is_open : Bool) (gate : List ℕ) → bits_apart gate (gate_word is_open) ≤ 14 → gate_open gate ≡ is_open
unfolding gate_open
at_rest true gate near = lt-ltb _ _ (omega (arith, near, between, apart_through gate (gate_word true) (gate_word false)))
at_rest false gate near = le-ltb _ _ (omega (arith, near, between, apart_through gate (gate_word true) (gate_word false)))

-- So is one that was just written, whatever sum it has.
pub gate_reads : (is_open : Bool) (sum : List ℕ) → gate_open (gate_bytes is_open sum) ≡ is_open
unfolding gate_open bits_apart
gate_reads true sum = refl
gate_reads false sum = refl

-- It has the sum that it was written with.
pub sum_written : (is_open : Bool) (sum : List ℕ) → length sum ≡ 32 → gate_sum (gate_bytes is_open sum) ≡ sum
sum_written is_open sum long = ap (take 32) (behind is_open) ∙ ap (λ k. take k (sum ++ replicate 472 0)) (sym long) ∙ take-append_seam sum (replicate 472 0)
  where
    behind : (is_open : Bool) → drop 8 (gate_bytes is_open sum) ≡ sum ++ replicate 472 0
    behind true = refl
    behind false = refl

-- A gate is of a record just where it has this record's sum.
pub fits_sum : (gate listing : List ℕ) → gate_sum gate ≡ sum_in listing → is_gate_of gate listing ≡ true
fits_sum gate listing = (slice_eq-Decides Decides-eqb (gate_sum gate) (sum_in listing) _ refl).1

pub sum_fits : (gate listing : List ℕ) → is_gate_of gate listing ≡ true → gate_sum gate ≡ sum_in listing
sum_fits gate listing = (slice_eq-Decides Decides-eqb (gate_sum gate) (sum_in listing) _ refl).0

-- So one that is written with the sum of a record is of this record.
pub written_fits : (is_open : Bool) (listing : List ℕ) → length (sum_in listing) ≡ 32 → is_gate_of (gate_bytes is_open (sum_in listing)) listing ≡ true
written_fits is_open listing long = fits_sum (gate_bytes is_open (sum_in listing)) listing (sum_written is_open (sum_in listing) long)
