use Rattle.std.proofs.Common.{suc, refl, sym, ap, arith}
use Rattle.cell_machine.specs.Frames.{around_of}
use Rattle.cell_machine.specs.Value.{and_then}
use Rattle.interpreter.specs.Law.{left}
use Rattle.interpreter.specs.State.{with_run}
use Rattle.interpreter.specs.Representation.{core}
use Rattle.interpreter.specs.Text.{serve, due_word}
use Rattle.interpreter.proofs.RoundContract.{round_as}
use Rattle.interpreter.proofs.Wiring.{quiet_round}
use Rattle.interpreter.proofs.forth.Forth.do_word.Goals as goal

pub returns-in-Some-clause-round : goal.returns-in-Some-clause-round
returns-in-Some-clause-round g c = λ m levels x less stands outside.
    round_as g.T.Terminal (suc m) _ c.args.self.now
    (λ r. ap (λ o. and_then (due_word (suc m) (λ a due c x. serve m a due c x) c.args.token o (around_of levels) (core c.args.self.now) (with_run r x)) (λ c x. left (suc m) levels c x)) (sym c.in-Some.ensures))
    (omega arith) refl
    (c.do_service.ensures.round m levels x less stands)

pub returns-in-None-clause-round : goal.returns-in-None-clause-round
returns-in-None-clause-round g c = λ m levels x less stands outside.
    round_as g.T.Terminal (suc m) _ c.args.self.now
    (λ r. ap (λ o. and_then (due_word (suc m) (λ a due c x. serve m a due c x) c.args.token o (around_of levels) (core c.args.self.now) (with_run r x)) (λ c x. left (suc m) levels c x)) (sym c.in-None.ensures))
    (omega arith) refl
    (quiet_round g.D.SectorDevice g.T.Terminal (suc m) levels g.met.D.SectorDevice.only_now c.args.self.now _ c.args.terminal.now c.goes_on_quietly.ensures stands c.users_word.ensures.spares
    (c.users_word.ensures.alters (suc m) (λ a due c x. serve m a due c x) levels x stands outside))
