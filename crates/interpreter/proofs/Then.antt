-- One part of a line after another.
use Rattle.std.proofs.Common.{◌≡◌, ◌⊎◌, ℕ, ◌+◌, ◌≤◌, Bool, true, false, List, [], ◌∷◌, ◌++◌, Option, Some, None, Result, Ok, Err, refl, sym, ap, subst, ◌∙◌, ⊎_elim, inl, inr, append_assoc, arith}
use Rattle.std.specs.Prelude.{◌||◌}
use Rattle.std.specs.Io.KnownBytes.{Appends, Consumes}
use Rattle.std.proofs.KnownBytes.{Consumes-trans, Appends-trans}
use Rattle.sector_disk.specs.Disk.{Image, MayLeave}
use Rattle.sector_disk.specs.Moments.{Elapses}
use Rattle.sector_disk.specs.declared.device.SectorDevice.{Ghosts}
use Rattle.journal.specs.Maps.{Maps}
use Rattle.block_words.specs.Words.{Wear, add_wear, Save}
use Rattle.interpreter.proofs.Keeping.{keeps_on}
use Rattle.cell_machine.specs.Fault.{Ending}
use Rattle.cell_machine.specs.Frames.{Core}
use Rattle.cell_machine.specs.Value.{Outcome, Did, Ends}
use Rattle.interpreter.specs.declared.terminal.Terminal.{Ghosts as TerminalGhosts}
use Rattle.interpreter.specs.declared.fault.Stop.{Stop}
use Rattle.interpreter.specs.declared.fault.Stop.TheVariants as stop
use Rattle.interpreter.specs.Deeds.{Deed, then, before, after, mended, Fits}
use Rattle.interpreter.specs.Law.{run_after, Grows}
use Rattle.interpreter.specs.State.{World, Run, with_run}
use Rattle.interpreter.specs.Stops.{ending_of}
use Rattle.interpreter.specs.ServiceContract.{Left, Broke, BreaksOff, Comes, Heard, Printed, KeepsAndWears, failed_calls}
use Rattle.interpreter.proofs.Deeds.{before-then, after-then, mended-then}
use Rattle.block_words.proofs.Worn.{wears_then}
use Rattle.interpreter.specs.Promise.{HasRisenBy}
use Rattle.block_words.proofs.Counted.{risen_then}

-- ---- what comes of the line

pub or-true : (a : Bool) → (a || true) ≡ true
or-true true = refl
or-true false = refl

or-none : (a : Bool) → (a || false) ≡ a
or-none true = refl
or-none false = refl

or-left : (a b : Bool) → a ≡ true → (a || b) ≡ true
or-left a b is = ap (λ v. v || b) is

or-right : (a b : Bool) → b ≡ true → (a || b) ≡ true
or-right a b is = ap (λ v. a || v) is ∙ or-true a

or-cases : (a b : Bool) → (a || b) ≡ true → (a ≡ true) ⊎ (b ≡ true)
or-cases true b is = inl refl
or-cases false b is = inr is

module _ {R : Type 0} (start start2 : Run → R) (d e : Deed) (first : (r : Run) → Fits d r → start (before d r) ≡ start2 (after d r)) (none : d.met ≡ true → e.given ≡ []) where
  pub fits_second : (r : Run) → Fits (then d e) r → Fits e r
  fits_second r fits met = fits (or-left e.met d.met met)

  pub fits_first : (r : Run) → Fits (then d e) r → Fits d (before e r)
  fits_first r fits met = ap (λ l. l ++ r.input) (none met) ∙ fits (or-right e.met d.met met)

  -- before both, it comes to what comes between them
  pub both_come : (r : Run) → Fits (then d e) r → start (before (then d e) r) ≡ start2 (before e (after d r))
  both_come r fits = ap start (before-then d e r) ∙ first (before e r) (fits_first r fits)

module _ (start start2 : Run → Outcome World) (d e : Deed) (first : (r : Run) → Fits d r → start (before d r) ≡ start2 (after d r)) (none : d.met ≡ true → e.given ≡ []) where
  abbrev seconds : (r : Run) → Fits (then d e) r → Fits e r
  seconds r fits = fits_second start start2 d e first none r fits

  abbrev comes_of : (r : Run) → Fits (then d e) r → start (before (then d e) r) ≡ start2 (before e (after d r))
  comes_of r fits = both_come start start2 d e first none r fits

  left_then : (i : Ending) (c : Core) (x : World) → Left start2 e i c x → Left start (then d e) i c x
  left_then i c x h = record {
    core = h.core;
    like = h.like;
    ends = λ r fits. comes_of r fits ∙ h.ends (after d r) (seconds r fits) ∙ ap (λ r. Ends i h.core (with_run r x)) (sym (after-then d e r));
  }

  broke_then : (c : Core) (x : World) → Broke start2 e c x → Broke start (then d e) c x
  broke_then c x h = record {
    core = h.core;
    like = h.like;
    breaks = λ r fits none.
        let b : BreaksOff start2 e h.core x (after d r) = h.breaks (after d r) (seconds r fits) none in
        record { run = b.run; ends = comes_of r fits ∙ b.ends; input = b.input; output = b.output ∙ append_assoc r.output d.printed e.printed; saves = b.saves ∙ append_assoc r.saves d.saves e.saves };
    grows = λ r fits.
        let f : Deed = mended e in
        subst (λ b. Grows (after b r) (run_after (start (before b r)))) (sym (mended-then d e))
        (subst (λ o. Grows (after (then d f) r) (run_after o)) (sym (both_come start start2 d f first none r fits))
        (subst (λ q. Grows q (run_after (start2 (before f (after d r))))) (sym (after-then d f r)) (h.grows (after d r) (seconds r fits))));
    input = λ r fits never none. subst (λ o. (run_after o).input ≡ []) (sym (comes_of r fits)) (h.input (after d r) (seconds r fits) never none);
    answers = λ r fits never none. subst (λ o. (run_after o).answers ≡ []) (sym (comes_of r fits)) (h.answers (after d r) (seconds r fits) never none);
    failures = λ r fits never none.
        subst (λ o. (run_after o).failures ≡ (after (then d e) r).failures) (sym (comes_of r fits))
        (subst (λ f. (run_after (start2 (before e (after d r)))).failures ≡ f.failures) (sym (after-then d e r)) (h.failures (after d r) (seconds r fits) never none));
  }

  pub comes_then : (result : Result (Unit {0}) Stop) (c : Core) (x : World) → Comes start2 e result c x → Comes start (then d e) result c x
  comes_then (Ok v) c x h = λ r fits. comes_of r fits ∙ h (after d r) (seconds r fits) ∙ ap (λ r. Did c (with_run r x)) (sym (after-then d e r))
  comes_then (Err stop.Io) c x h = broke_then c x h
  comes_then (Err stop.Quit) c x h = left_then (ending_of stop.Quit) c x h
  comes_then (Err stop.Abort) c x h = left_then (ending_of stop.Abort) c x h
  comes_then (Err (stop.Fault f)) c x h = left_then (ending_of (stop.Fault f)) c x h

-- ---- what the terminal saw

-- no byte is taken of an input that is at its end
none_taken : (a b : Option (List ℕ)) (bytes : List ℕ) → a ≡ Some [] → Consumes a b bytes → (bytes ≡ []) × (b ≡ Some [])
none_taken a b bytes none h = taken b bytes (subst (λ a. Consumes a b bytes) none h)
  where
    taken : (b : Option (List ℕ)) (bytes : List ℕ) → Consumes (Some []) b bytes → (bytes ≡ []) × (b ≡ Some [])
    taken None bytes h = absurd h
    taken (Some left) [] h = (refl, ap (λ l. Some l) (sym h))
    taken (Some left) (x ∷ bytes) h = absurd cc

printed_then : (result : Result (Unit {0}) Stop) (a b c : Option (List ℕ)) (bs cs tried : List ℕ) → Appends a b bs → Printed result b c cs tried → Printed result a c (bs ++ cs) tried
printed_then (Ok v) a b c bs cs tried p q = Appends-trans a b c bs cs p q
printed_then (Err stop.Io) a b c bs cs tried p q =
    (q.0, q.1, subst (λ l. Appends a c l) (sym (append_assoc bs cs q.0)) (Appends-trans a b c bs (cs ++ q.0) p q.2))
printed_then (Err stop.Quit) a b c bs cs tried p q = Appends-trans a b c bs cs p q
printed_then (Err stop.Abort) a b c bs cs tried p q = Appends-trans a b c bs cs p q
printed_then (Err (stop.Fault f)) a b c bs cs tried p q = Appends-trans a b c bs cs p q

module _ {T : Type 0} (H : TerminalGhosts T) where
  pub heard_none : {d e : Deed} {result : Result (Unit {0}) Stop} {t u v : T} → Heard H (Ok tt) d t u → Heard H result e u v → d.met ≡ true → e.given ≡ []
  heard_none {d} {e} {result} {t} {u} {v} first second met = (none_taken (H.input u) (H.input v) e.given (first.at_end met) second.given).0

  pub heard_then : {d e : Deed} {result : Result (Unit {0}) Stop} {t u v : T} → Heard H (Ok tt) d t u → Heard H result e u v → Heard H result (then d e) t v
  heard_then {d} {e} {result} {t} {u} {v} first second = record {
    given = Consumes-trans (H.input t) (H.input u) (H.input v) d.given e.given first.given second.given;
    at_end = λ met. ⊎_elim (λ later. second.at_end later) (λ before. (none_taken (H.input u) (H.input v) e.given (first.at_end before) second.given).1) (or-cases e.met d.met met);
    printed = printed_then result (H.output t) (H.output u) (H.output v) d.printed e.printed e.tried first.printed second.printed;
    calls =
        let well : d.calls + 0 ≡ d.calls = omega arith in
        let all : d.calls + (e.calls + failed_calls result) ≡ d.calls + e.calls + failed_calls result = omega arith in
        subst (λ n. HasRisenBy n (H.calls t) (H.calls v)) all
        (risen_then d.calls (e.calls + failed_calls result) (H.calls t) (H.calls u) (H.calls v) (subst (λ n. HasRisenBy n (H.calls t) (H.calls u)) well first.calls) second.calls);
  }

-- ---- what the device saw

module _ {D : Type 0} (G : Ghosts D) (counts_now : (d : D) (t : ℕ) (c : Image) → t ≤ G.time d → MayLeave (G.disk d) c → G.left_since d t c)
    (widens : (d : D) (s t : ℕ) (c : Image) → s ≤ t → G.left_since d t c → G.left_since d s c)
    (only_now : (d : D) (c : Image) → G.left_since d (G.time d) c → MayLeave (G.disk d) c) where
  pub maps_then : (m m' m'' : Maps) (old mid new : D) (made more : List Save) (wear later : Wear) → Elapses G.time G.left_since old mid → Elapses G.time G.left_since mid new
      → KeepsAndWears G m m' old mid made wear → KeepsAndWears G m' m'' mid new more later → KeepsAndWears G m m'' old new (made ++ more) (add_wear wear later)
  maps_then m m' m'' old mid new made more wear later on on_then first second = record {
    keeps = keeps_on G counts_now widens only_now m m' m'' old mid new made more on on_then first.keeps second.keeps;
    wears = wears_then G old mid new wear later first.wears second.wears;
  }
