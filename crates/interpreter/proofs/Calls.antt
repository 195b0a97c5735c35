-- Calls of the terminal.
use Rattle.std.proofs.Common.{◌≡◌, ℕ, suc, ◌+◌, true, false, List, [], ◌∷◌, ◌++◌, Option, Some, None, Ok, Err, refl, sym, ap, subst, ◌∙◌, arith}
use Rattle.std.proofs.lemmas.List.{append-nil}
use Rattle.cell_machine.specs.Frames.{Core}
use Rattle.cell_machine.specs.Value.{Outcome, Did}
use Rattle.interpreter.specs.State.{World, Run, with_run, with_output, with_terminal}
use Rattle.interpreter.specs.Terminals.{terminal_call, print}
use Rattle.interpreter.specs.Law.{run_after, Grows}
use Rattle.interpreter.specs.Deeds.{nothing, longer, before, after}
use Rattle.interpreter.specs.ServiceContract.{Broke, Heard}
use Rattle.interpreter.proofs.Deeds.{printing, trying, after-printing}
use Rattle.interpreter.proofs.Wearing.{within_itself}
use Rattle.std.specs.Io.KnownBytes.{Keeps, Appends, Consumes}
use Rattle.std.proofs.KnownBytes.{Consumes-nil, Appends-nil}
use Rattle.sector_disk.specs.Counting.{count_up}
use Rattle.interpreter.specs.declared.terminal.Terminal.{Ghosts as TerminalGhosts}
use Rattle.interpreter.specs.declared.fault.Stop.TheVariants as stop
use Rattle.interpreter.specs.Terminal.{AppendsSome}
use Rattle.interpreter.specs.Reading.{reads}

-- a call that goes well
pub call-well : (t : Option ℕ) (c : Core) (x : World) (go : World → Outcome World) → terminal_call (longer 1 t) c (with_terminal (longer 1 t) x) go ≡ go (with_terminal t x)
call-well None c x go = refl
call-well (Some k) c x go = let e : 1 + k ≡ suc k = omega arith in ap (λ n. terminal_call (Some n) c (with_terminal (Some n) x) go) e

pub print-well : (bytes : List ℕ) (c : Core) (x : World) (r : Run) → print bytes c (with_run (before (printing bytes 1) r) x) ≡ Did c (with_run (after (printing bytes 1) r) x)
print-well bytes c x r =
    call-well r.terminal c (with_run r x) (λ x. Did c (with_output (x.run.output ++ bytes) x)) ∙ ap (λ r. Did c (with_run r x)) (sym (after-printing bytes 1 r))

-- a call that fails
pub print-fails : (bytes : List ℕ) (c : Core) (x : World) → Broke (λ r. print bytes c (with_run r x)) (trying bytes) c x
print-fails bytes c x = record {
  core = c;
  like = refl;
  breaks = λ r fits none.
      record {
        run = record r { terminal = longer 0 r.terminal };
        ends = ap (λ t. terminal_call (longer 0 t) c (with_run (record r { terminal = longer 0 r.terminal }) x) (λ x. Did c (with_output (x.run.output ++ bytes) x))) none;
        input = refl;
        output = sym (append-nil r.output);
        saves = sym (append-nil r.saves);
      };
  grows = λ r fits.
      subst (λ o. Grows (after (printing bytes 1) r) (run_after o)) (sym (print-well bytes c x r))
      (record { output = ([], sym (append-nil _)); saves = ([], sym (append-nil _)); wear = within_itself _ });
  input = λ r fits never none. subst (λ o. (run_after o).input ≡ []) (sym (goes r never)) none;
  answers = λ r fits never none. subst (λ o. (run_after o).answers ≡ []) (sym (goes r never)) none;
  failures = λ r fits never none. subst (λ o. (run_after o).failures ≡ r.failures + 0) (sym (goes r never)) (omega arith);
}
  where
    goes : (r : Run) → r.terminal ≡ None → print bytes c (with_run (before (trying bytes) r) x) ≡ Did c (with_run (record r { output = r.output ++ bytes; terminal = longer 0 r.terminal }) x)
    goes r never = ap (λ t. terminal_call (longer 0 t) c (with_run (record r { terminal = longer 0 r.terminal }) x) (λ x. Did c (with_output (x.run.output ++ bytes) x))) never

-- ---- what the terminal saw of one call

kept_none : (a b : Option (List ℕ)) → Keeps a b → Consumes a b []
kept_none None b h = tt
kept_none (Some l) None h = h
kept_none (Some l) (Some k) h = sym h

-- known bytes that stayed grew by none
kept_appends : (a b : Option (List ℕ)) → Keeps a b → Appends a b []
kept_appends None b h = tt
kept_appends (Some l) None h = h
kept_appends (Some l) (Some k) h = h ∙ sym (append-nil l)

module _ {T : Type 0} (H : TerminalGhosts T) {t u : T} where
  -- it printed these bytes
  pub heard_print : (bytes : List ℕ) → H.input u ≡ H.input t → Appends (H.output t) (H.output u) bytes → H.calls u ≡ count_up (H.calls t) → Heard H (Ok tt) (printing bytes 1) t u
  heard_print bytes input printed counted = record {
    given = subst (λ i. Consumes (H.input t) i []) (sym input) (Consumes-nil (H.input t));
    at_end = λ no. absurd (let e : false ≡ true = no in cc);
    printed = printed;
    calls = counted;
  }

  -- or failed at them
  pub heard_unprinted : (bytes : List ℕ) → H.input u ≡ H.input t → AppendsSome (H.output t) (H.output u) bytes → H.calls u ≡ count_up (H.calls t) → Heard H (Err stop.Io) (trying bytes) t u
  heard_unprinted bytes input printed counted = record {
    given = subst (λ i. Consumes (H.input t) i []) (sym input) (Consumes-nil (H.input t));
    at_end = λ no. absurd (let e : false ≡ true = no in cc);
    printed = printed;
    calls = counted;
  }

  -- it gave a byte
  pub heard_byte : (b : ℕ) → Consumes (H.input t) (H.input u) (b ∷ []) → Keeps (H.output t) (H.output u) → H.calls u ≡ count_up (H.calls t) → Heard H (Ok tt) (reads (b ∷ []) false 1) t u
  heard_byte b given output counted = record {
    given = given;
    at_end = λ no. absurd (let e : false ≡ true = no in cc);
    printed = kept_appends (H.output t) (H.output u) output;
    calls = counted;
  }

  -- it met the end of the input
  pub heard_end : Consumes (H.input t) (H.input u) [] → H.input u ≡ Some [] → Keeps (H.output t) (H.output u) → H.calls u ≡ count_up (H.calls t) → Heard H (Ok tt) (reads [] true 1) t u
  heard_end given none output counted = record {
    given = given;
    at_end = λ met. none;
    printed = kept_appends (H.output t) (H.output u) output;
    calls = counted;
  }

  -- it failed to give one
  pub heard_fault : Keeps (H.input t) (H.input u) → Keeps (H.output t) (H.output u) → H.calls u ≡ count_up (H.calls t) → Heard H (Err stop.Io) nothing t u
  heard_fault kept output counted = record {
    given = kept_none (H.input t) (H.input u) kept;
    at_end = λ no. absurd (let e : false ≡ true = no in cc);
    printed = ([], ([], refl), kept_appends (H.output t) (H.output u) output);
    calls = counted;
  }
