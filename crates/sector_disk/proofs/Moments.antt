-- How calls follow one another: laws of time, and of what a stop might have left.
use Rattle.std.proofs.Common.{◌≡◌, ◌≢◌, ℕ, ◌≤◌, List, inl, inr, ⊎_elim, arith}
use Rattle.std.proofs.lemmas.Bool.Decides.{nat_tests}
use Rattle.sector_disk.specs.Disk.{Image, with_sector}
use Rattle.sector_disk.specs.Moments.{Elapses, LeavesOnly}

module _ {D : Type 0} (time : D → ℕ) (left_since : D → ℕ → Image → Type 0) where
  -- no call is no time
  pub elapses_refl : (d : D) → Elapses time left_since d d
  elapses_refl d = record { later = omega arith; only = λ t c le since. inl since; still = λ t s c le le' since before. before }

  -- two calls in a row are one passage of time
  pub elapses_then : (a b d : D) → ((s t : ℕ) (c : Image) → s ≤ t → left_since d t c → left_since d s c)
      → Elapses time left_since a b → Elapses time left_since b d → Elapses time left_since a d
  elapses_then a b d widens first then = record {
    later = omega (arith, first.later, then.later);
    only = λ t c le since.
        ⊎_elim
        (λ past. ⊎_elim (λ was. inl was) (λ mid. inr (then.still t (time a) c (omega (arith, le, first.later)) first.later since mid)) (first.only t c le past))
        (λ now. inr (widens (time a) (time b) c first.later now))
        (then.only t c (omega (arith, le, first.later)) since);
    still = λ t s c le below since was.
        ⊎_elim
        (λ past. then.still t s c (omega (arith, le, first.later)) (omega (arith, below, first.later)) since (first.still t s c le below past was))
        (λ now. widens s (time b) c (omega (arith, below, first.later)) now)
        (then.only t c (omega (arith, le, first.later)) since);
  }

  -- what either call leaves has R, so what both leave has it
  pub leaves_then : (a b d : D) (P Q R : Image → Type 0) → Elapses time left_since a b → Elapses time left_since b d
      → LeavesOnly time left_since a b P → LeavesOnly time left_since b d Q
      → ((c : Image) → P c → R c) → ((c : Image) → Q c → R c) → LeavesOnly time left_since a d R
  leaves_then a b d P Q R first then p q from_p from_q c since =
      ⊎_elim (λ past. from_p c (p c past)) (λ now. from_q c (q c now)) (then.only (time a) c first.later since)

pub sector_same : (image : Image) (k : ℕ) (bytes : List ℕ) → with_sector image k bytes k ≡ bytes
sector_same image k bytes = grind (arith, nat_tests)

pub sector_other : (image : Image) (k j : ℕ) (bytes : List ℕ) → j ≢ k → with_sector image k bytes j ≡ image j
sector_other image k j bytes other = grind (arith, nat_tests)
