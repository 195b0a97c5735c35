use Rattle.std.proofs.Common.{◌≡◌, ◌∷◌, [], ◌<◌, true, false, length, Err, refl, ap, ◌∙◌, arith}
use Rattle.std.specs.Prelude.{nat_lt}
use Rattle.std.proofs.lemmas.Bool.{le-ltb, lt-ltb}
use Rattle.cell_machine.specs.Fault.{StackFull}
use Rattle.interpreter.specs.State.{with_run}
use Rattle.interpreter.specs.Terminals.{on_terminal}
use Rattle.system_words.specs.declared.words.TerminalWord.TheVariants.{Key}
use Rattle.interpreter.specs.Representation.{core}
use Rattle.interpreter.specs.Deeds.{before}
use Rattle.interpreter.specs.Reading.{reads}
use Rattle.interpreter.specs.declared.fault.Stop.TheVariants as stop
use Rattle.interpreter.specs.declared.fault.Fault.TheVariants as found
use Rattle.interpreter.proofs.Short.{needing-no, needing-yes}
use Rattle.interpreter.proofs.Popping.{ran_refused}
use Rattle.interpreter.proofs.Expecting.{ran_byte, ran_reading, key_well, key_ends, key_broke, key_of_run}
use Rattle.interpreter.proofs.Calls.{heard_byte, heard_end, heard_fault}
use Rattle.interpreter.proofs.Running.{comes_as}
use Rattle.interpreter.proofs.forth.Forth.key.Goals as goal

pub returns-then-depth-ge256-clause-serves : goal.returns-then-depth-ge256-clause-serves
returns-then-depth-ge256-clause-serves g c = λ levels x stands.
    let old = c.args.self.now in
    let full : nat_lt (length old.stack) 256 ≡ false = le-ltb (length old.stack) 256 (omega (arith, c.if-depth-ge256.true, c.depth.ensures.value)) in
    ran_refused g.D.SectorDevice g.T.Terminal g.met.D.SectorDevice.only_now old old c.args.terminal.now stands refl (core old) refl
    (λ r. needing-no (nat_lt (length old.stack) 256) StackFull (core old) (with_run r x) _ full)

pub returns-in-Ok-Some-clause-serves : goal.returns-in-Ok-Some-clause-serves
returns-in-Ok-Some-clause-serves g c = λ levels x stands.
    let old = c.args.self.now in
    let e = c.in-Ok-Some in
    let given = rw e.field-0-is at e.ensures.given in
    let few : length old.stack < 256 = omega (arith, c.if-depth-ge256.false, c.depth.ensures.value) in
    let room : nat_lt (length old.stack) 256 ≡ true = lt-ltb (length old.stack) 256 few in
    let pushed : c.from.result ∷ old.stack ≡ e.byte ∷ old.stack = ap (λ b. b ∷ old.stack) c.from.ensures in
    ran_byte g.D.SectorDevice g.T.Terminal g.met.D.SectorDevice.only_now (e.byte ∷ []) false 1 (e.byte ∷ old.stack) old c.leave.new.self stands
    (c.leave.ensures.left ∙ ap (λ s. record old { stack = s }) pushed) (heard_byte g.T.Terminal e.byte given e.ensures.output e.ensures.counted)
    (λ r fits. needing-yes (nat_lt (length old.stack) 256) StackFull (core old) (with_run (before (reads (e.byte ∷ []) false 1) r) x) _ room ∙ key_well e.byte (core old) x r few)

pub returns-in-Ok-None-clause-serves : goal.returns-in-Ok-None-clause-serves
returns-in-Ok-None-clause-serves g c = λ levels x stands.
    let old = c.args.self.now in
    let e = c.in-Ok-None in
    let given = rw e.field-0-is at e.ensures.given in
    let heard = heard_end g.T.Terminal given (e.ensures.at_end e.field-0-is) e.ensures.output e.ensures.counted in
    let room : nat_lt (length old.stack) 256 ≡ true = lt-ltb (length old.stack) 256 (omega (arith, c.if-depth-ge256.false, c.depth.ensures.value)) in
    ran_reading g.D.SectorDevice g.T.Terminal g.met.D.SectorDevice.only_now (Err (stop.Fault found.EndOfInput)) [] true 1 old old stands refl
    (record { given = heard.given; at_end = heard.at_end; printed = heard.printed; calls = heard.calls })
    (record {
      core = core old;
      like = refl;
      ends = λ r fits. needing-yes (nat_lt (length old.stack) 256) StackFull (core old) (with_run (before (reads [] true 1) r) x) _ room ∙ key_ends (core old) x r (fits refl);
    })

pub returns-in-Err-clause-serves : goal.returns-in-Err-clause-serves
returns-in-Err-clause-serves g c = λ levels x stands.
    let old = c.args.self.now in
    let e = c.in-Err.ensures in
    let room : nat_lt (length old.stack) 256 ≡ true = lt-ltb (length old.stack) 256 (omega (arith, c.if-depth-ge256.false, c.depth.ensures.value)) in
    ran_reading g.D.SectorDevice g.T.Terminal g.met.D.SectorDevice.only_now (Err stop.Io) [] false 0 old old stands refl (heard_fault g.T.Terminal e.err e.output e.counted)
    (comes_as (λ r. key_of_run (core old) x r) (λ r. on_terminal Key (core old) (with_run r x)) (reads [] false 0) (Err stop.Io) (core old) x
    (λ r. needing-yes (nat_lt (length old.stack) 256) StackFull (core old) (with_run r x) _ room) (key_broke (core old) (core old) x refl))
