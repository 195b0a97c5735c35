-- A service within a line: what is left goes on after it.
use Rattle.std.proofs.Common.{◌≡◌, ℕ, true, List, [], Result, Ok, Err, refl, ap, ◌∙◌}
use Rattle.std.specs.Prelude.{⊤}
use Rattle.sector_disk.specs.declared.device.SectorDevice.{Ghosts}
use Rattle.cell_machine.specs.Frames.{Core, Level}
use Rattle.cell_machine.specs.Value.{Outcome, Did, Ends, and_then}
use Rattle.interpreter.specs.declared.terminal.Terminal.{Ghosts as TerminalGhosts}
use Rattle.interpreter.specs.declared.fault.Stop.{Stop}
use Rattle.interpreter.specs.declared.fault.Stop.TheVariants as stop
use Rattle.interpreter.specs.declared.forth.Forth.{Forth}
use Rattle.interpreter.specs.Deeds.{Deed, before, after, mended}
use Rattle.interpreter.specs.Law.{left, run_after, Grows}
use Rattle.interpreter.specs.State.{World, Run}
use Rattle.interpreter.specs.Representation.{core}
use Rattle.interpreter.specs.ServiceContract.{Broke, BreaksOff, Comes, Ran}
use Rattle.interpreter.specs.RoundContract.{round_of, RanRound}
use Rattle.interpreter.proofs.Lasting.{only_grows, begins_itself, holds, no_input_lasts}
use Rattle.interpreter.proofs.Answered.{left-li}
use Rattle.interpreter.proofs.Quiet.{stays_quiet}
use Rattle.interpreter.proofs.Wearing.{within_itself}
use Rattle.interpreter.proofs.LineContract.{grows_then}

-- without input, none comes
no_input : (n : ℕ) (levels : List Level) (c : Core) (x : World) → x.run.input ≡ [] → (run_after (left n levels c x)).input ≡ []
no_input n levels c x none = holds (λ r. r.input ≡ []) (λ w l. ⊤) no_input_lasts _ _ (left-li true (λ r. r.input ≡ []) (λ w l. ⊤) no_input_lasts n levels c x none)

-- without answers, no call of the device fails, and none come
pub record IsQuiet (x : World) (r : Run) : Type 0 where
  pub answers : r.answers ≡ []
  pub failures : r.failures ≡ x.run.failures

pub quiet_left : (n : ℕ) (levels : List Level) (c : Core) (x : World) → x.run.answers ≡ [] → IsQuiet x (run_after (left n levels c x))
quiet_left n levels c x none = let q = stays_quiet x.run.failures n levels c x (none, refl) in record { answers = q.0; failures = q.1 }

module _ (n : ℕ) (levels : List Level) where
  abbrev on : Outcome World → Outcome World
  on o = and_then o (λ c x. left n levels c x)

  grows_on : (o : Outcome World) → Grows (run_after o) (run_after (on o))
  grows_on (Did c x) = only_grows n levels c x
  grows_on (Ends e c x) = record { output = begins_itself x.run.output; saves = begins_itself x.run.saves; wear = within_itself x.run.wear }

  input_on : (o : Outcome World) → (run_after o).input ≡ [] → (run_after (on o)).input ≡ []
  input_on (Did c x) none = no_input n levels c x none
  input_on (Ends e c x) none = none

  answers_on : (o : Outcome World) → (run_after o).answers ≡ [] → (run_after (on o)).answers ≡ []
  answers_on (Did c x) none = (quiet_left n levels c x none).answers
  answers_on (Ends e c x) none = none

  failures_on : (o : Outcome World) (m : ℕ) → (run_after o).answers ≡ [] → (run_after o).failures ≡ m → (run_after (on o)).failures ≡ m
  failures_on (Did c x) m none few = (quiet_left n levels c x none).failures ∙ few
  failures_on (Ends e c x) m none few = few

  pub broke_on : {start : Run → Outcome World} {deed : Deed} {c : Core} {x : World} → Broke start deed c x → Broke (λ r. on (start r)) deed c x
  broke_on {start} {deed} {c} {x} h = record {
    core = h.core;
    like = h.like;
    breaks = λ r fits none. let b : BreaksOff start deed h.core x r = h.breaks r fits none in record { run = b.run; ends = ap on b.ends; input = b.input; output = b.output; saves = b.saves };
    grows = λ r fits.
        let o : Outcome World = start (before (mended deed) r) in grows_then (after (mended deed) r) (run_after o) (run_after (on o)) (h.grows r fits) (grows_on o);
    input = λ r fits never none. input_on (start (before deed r)) (h.input r fits never none);
    answers = λ r fits never none. answers_on (start (before deed r)) (h.answers r fits never none);
    failures = λ r fits never none. failures_on (start (before deed r)) (after deed r).failures (h.answers r fits never none) (h.failures r fits never none);
  }

  left_on : (start : Run → Outcome World) (deed : Deed) (s : Stop) (c : Core) (x : World) → Comes start deed (Err s) c x → Comes (λ r. on (start r)) deed (Err s) c x
  left_on start deed stop.Io c x h = broke_on h
  left_on start deed stop.Quit c x h = record { core = h.core; like = h.like; ends = λ r fits. ap on (h.ends r fits) }
  left_on start deed stop.Abort c x h = record { core = h.core; like = h.like; ends = λ r fits. ap on (h.ends r fits) }
  left_on start deed (stop.Fault f) c x h = record { core = h.core; like = h.like; ends = λ r fits. ap on (h.ends r fits) }

module _ {D T : Type 0} {G : Ghosts D} (H : TerminalGhosts T) (n : ℕ) (levels : List Level) where
  pub served_round : {start : Run → Outcome World} (result : Result (Unit {0}) Stop) {old new : Forth D G} {t u : T} {x : World}
      → Ran H start result old new t u levels x → RanRound H n (λ r. on n levels (start r)) (round_of result) old new t u x
  served_round (Ok v) h = record {
    deed = h.deed;
    levels = levels;
    world = h.world;
    stands = h.stands;
    steps = h.steps;
    comes = λ model r fits. ap (λ o. on n levels o) (h.comes model r fits);
    heard = record { given = h.heard.given; at_end = h.heard.at_end; printed = h.heard.printed; calls = h.heard.calls };
    cause = h.cause;
    keeps = h.keeps;
  }
  served_round (Err s) {old} {new} h = record {
    deed = h.deed;
    levels = levels;
    world = h.world;
    stands = h.stands;
    steps = h.steps;
    comes = λ model. left_on n levels _ h.deed s (core new) h.world (h.comes model);
    heard = h.heard;
    cause = h.cause;
    keeps = h.keeps;
  }
