use Rattle.std.proofs.Common.{◌-◌, ◌<◌, [], ◌∷◌, length, refl, ap, sym, subst, ◌∙◌, arith}
use Rattle.std.specs.Io.KnownBytes.{Consumes}
use Rattle.std.proofs.lemmas.List.{length-set}
use Rattle.interpreter.proofs.Calls.{heard_byte, heard_end, heard_fault}
use Rattle.interpreter.proofs.Expecting.{reading_feed, reading_return, reading_other, stepped, with_none, with_one}
use Rattle.interpreter.proofs.forth.Forth.read_byte.Goals as goal

pub returns-in-Ok-Some-eq10-clause-step : goal.returns-in-Ok-Some-eq10-clause-step
returns-in-Ok-Some-eq10-clause-step g c =
    let e = c.in-Ok-Some-eq10 in
    let old = c.args.self.now in
    let given = subst (λ b. Consumes (g.T.Terminal.input c.args.terminal.now) (g.T.Terminal.input c.ask.new.self) (b ∷ [])) e.field-0-0-test (rw e.field-0-is at e.ensures.given) in
    let fewer = rw e.field-0-is at e.ensures.fewer in
    stepped g.T.Terminal 10 [] old.space old (heard_byte g.T.Terminal 10 given e.ensures.output e.ensures.counted) fewer
    (reading_feed c.args.left c.requires.some) refl (omega arith) (sym (with_none old.space c.args.a))

pub returns-in-Ok-Some-eq13-clause-step : goal.returns-in-Ok-Some-eq13-clause-step
returns-in-Ok-Some-eq13-clause-step g c =
    let e = c.in-Ok-Some-eq13 in
    let old = c.args.self.now in
    let given = subst (λ b. Consumes (g.T.Terminal.input c.args.terminal.now) (g.T.Terminal.input c.ask.new.self) (b ∷ [])) e.field-0-0-test (rw e.field-0-is at e.ensures.given) in
    let fewer = rw e.field-0-is at e.ensures.fewer in
    stepped g.T.Terminal 13 [] old.space old (heard_byte g.T.Terminal 13 given e.ensures.output e.ensures.counted) fewer
    (reading_return c.args.left c.requires.some) refl (omega arith) (sym (with_none old.space c.args.a))

pub returns-in-Ok-Some-clause-step : goal.returns-in-Ok-Some-clause-step
returns-in-Ok-Some-clause-step g c =
    let e = c.in-Ok-Some in
    let old = c.args.self.now in
    let given = rw e.field-0-is at e.ensures.given in
    let fewer = rw e.field-0-is at e.ensures.fewer in
    let size : c.args.a < length old.space = omega (arith, ap length c.set_byte.ensures.after, length-set old.space c.args.a e.byte, c.set_byte.ensures.size, c.requires.within, c.requires.some) in
    stepped g.T.Terminal e.byte (e.byte ∷ []) c.set_byte.new.self old (heard_byte g.T.Terminal e.byte given e.ensures.output e.ensures.counted) fewer
    (reading_other c.args.left (c.args.left - 1) e.byte (omega (arith, c.requires.some)) e.byte-test.0.1 e.byte-test.1) refl (omega (arith, c.requires.some))
    (c.set_byte.ensures.after ∙ with_one old.space c.args.a e.byte size)

pub returns-in-Ok-None-clause-step : goal.returns-in-Ok-None-clause-step
returns-in-Ok-None-clause-step g c =
    let e = c.in-Ok-None in
    let given = rw e.field-0-is at e.ensures.given in
    record { rest = refl; heard = heard_end g.T.Terminal given (e.ensures.at_end e.field-0-is) e.ensures.output e.ensures.counted }

pub returns-in-Err-clause-step : goal.returns-in-Err-clause-step
returns-in-Err-clause-step g c =
    let e = c.in-Err.ensures in
    record { rest = refl; heard = heard_fault g.T.Terminal e.err e.output e.counted }
