use Rattle.std.proofs.Common.{take, sym, ap, arith}
use Rattle.cell_machine.specs.Frames.{around_of}
use Rattle.cell_machine.specs.Value.{and_then}
use Rattle.interpreter.specs.Law.{left}
use Rattle.interpreter.specs.Lexicon.{language_of}
use Rattle.interpreter.specs.State.{with_run}
use Rattle.interpreter.specs.Representation.{core}
use Rattle.interpreter.specs.Text.{serve, treat}
use Rattle.interpreter.proofs.Treating.{altered_entered, entered_as}
use Rattle.interpreter.proofs.forth.Forth.treat.Goals as goal

pub found-requires : goal.found-requires
found-requires g c = record { sound = c.requires.sound; idle = c.requires.idle; word = λ x rests. c.in-Some.ensures.word (language_of x) rests.meant }

pub returns-in-Some-clause-entered : goal.returns-in-Some-clause-entered
returns-in-Some-clause-entered g c = λ n levels x stands.
    let word = take c.args.count c.args.self.now.text in
    entered_as n _ c.found.result c.args.self.now
    (λ r. ap (λ o. and_then (treat n (λ a due c x. serve n a due c x) o word (around_of levels) (core c.args.self.now) (with_run r x)) (λ c x. left n levels c x))
    (sym (c.in-Some.ensures.found (language_of x) stands.rests.meant)))
    (omega arith) (c.found.ensures.entered n levels x stands)

pub returns-in-None-clause-entered : goal.returns-in-None-clause-entered
returns-in-None-clause-entered g c = λ n levels x stands.
    let word = take c.args.count c.args.self.now.text in
    entered_as n _ c.number.result c.args.self.now
    (λ r. ap (λ o. and_then (treat n (λ a due c x. serve n a due c x) o word (around_of levels) (core c.args.self.now) (with_run r x)) (λ c x. left n levels c x))
    (sym (c.in-None.ensures.found (language_of x) stands.rests.meant)))
    (omega arith) (altered_entered n c.number.result (c.number.ensures.alters levels x stands))
