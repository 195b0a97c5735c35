-- Deeds one after another.
use Rattle.std.proofs.Common.{◌≡◌, ℕ, ◌+◌, Bool, true, false, List, ◌++◌, Option, Some, None, refl, sym, ap, ◌∙◌, append_assoc, arith}
use Rattle.std.specs.Prelude.{◌||◌}
use Rattle.std.proofs.lemmas.List.{append-nil}
use Rattle.block_words.proofs.Worn.{none_more, wear_assoc}
use Rattle.interpreter.specs.State.{Run}
use Rattle.interpreter.specs.Deeds.{Deed, nothing, then, longer, before, after, mended}

pub longer-nothing : (t : Option ℕ) → longer 0 t ≡ t
longer-nothing None = refl
longer-nothing (Some k) = let e : 0 + k ≡ k = omega arith in ap (λ n. Some n) e

longer-then : (m n : ℕ) (t : Option ℕ) → longer (m + n) t ≡ longer m (longer n t)
longer-then m n None = refl
longer-then m n (Some k) = let e : m + n + k ≡ m + (n + k) = omega arith in ap (λ n. Some n) e

pub or-assoc : (a b c : Bool) → ((b || a) || c) ≡ (b || (a || c))
or-assoc a true c = refl
or-assoc a false c = refl

pub before-nothing : (r : Run) → before nothing r ≡ r
before-nothing r = ap (λ t. record r { terminal = t }) (longer-nothing r.terminal)

pub after-nothing : (r : Run) → after nothing r ≡ r
after-nothing r =
    let e : r.failures + 0 ≡ r.failures = omega arith in
    λ t. record r { failures = e t; wear = none_more r.wear t; saves = append-nil r.saves t; output = append-nil r.output t }

pub before-then : (d e : Deed) (r : Run) → before (then d e) r ≡ before d (before e r)
before-then d e r =
    ap (λ l. record r { answers = l; input = (d.given ++ e.given) ++ r.input; terminal = longer (d.calls + e.calls) r.terminal }) (append_assoc d.answers e.answers r.answers)
    ∙ ap (λ l. record r { answers = d.answers ++ (e.answers ++ r.answers); input = l; terminal = longer (d.calls + e.calls) r.terminal }) (append_assoc d.given e.given r.input)
    ∙ ap (λ t. record r { answers = d.answers ++ (e.answers ++ r.answers); input = d.given ++ (e.given ++ r.input); terminal = t }) (longer-then d.calls e.calls r.terminal)

pub after-then : (d e : Deed) (r : Run) → after (then d e) r ≡ after e (after d r)
after-then d e r =
    let n : r.failures + (d.failures + e.failures) ≡ r.failures + d.failures + e.failures = omega arith in
    λ t. record r {
      failures = n t;
      wear = sym (wear_assoc r.wear d.wear e.wear) t;
      saves = sym (append_assoc r.saves d.saves e.saves) t;
      at_end = or-assoc d.met e.met r.at_end t;
      output = sym (append_assoc r.output d.printed e.printed) t;
    }

pub mended-then : (d e : Deed) → mended (then d e) ≡ then d (mended e)
mended-then d e =
    let n : d.calls + e.calls + 1 ≡ d.calls + (e.calls + 1) = omega arith in
    ap (λ l. record (then d e) { printed = l; calls = d.calls + e.calls + 1 }) (append_assoc d.printed e.printed e.tried)
    ∙ ap (λ n. record (then d e) { printed = d.printed ++ (e.printed ++ e.tried); calls = n }) n

-- a call of the terminal that prints
abbrev pub printing : List ℕ → ℕ → Deed
printing bytes calls = record nothing { printed = bytes; calls = calls }

-- and one that fails
abbrev pub trying : List ℕ → Deed
trying bytes = record nothing { tried = bytes }

pub after-printing : (bytes : List ℕ) (calls : ℕ) (r : Run) → after (printing bytes calls) r ≡ record r { output = r.output ++ bytes }
after-printing bytes calls r =
    let e : r.failures + 0 ≡ r.failures = omega arith in
    λ t. record r { failures = e t; wear = none_more r.wear t; saves = append-nil r.saves t; output = r.output ++ bytes }
