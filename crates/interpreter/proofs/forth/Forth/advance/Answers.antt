use Rattle.std.proofs.Common.{Err, ap, ◌∙◌, arith}
use Rattle.interpreter.specs.State.{with_run}
use Rattle.interpreter.specs.Representation.{core}
use Rattle.interpreter.specs.TextRounds.{seen_round}
use Rattle.interpreter.specs.RoundContract.{measure}
use Rattle.interpreter.proofs.Advancing.{looks_on, handed_passed, handed_stopped, advanced_as, down_from}
use Rattle.interpreter.proofs.forth.Forth.advance.Goals as goal

pub pass-requires : goal.pass-requires
pass-requires g c =
    let s = c.requires.sound in
    let h = c.in-Ok.ensures.hands s.0 s.1 s.2 in
    record { sound = (s.0, h.world, h.stands); idle = ap (λ f. f.machine.pending) c.in-Ok.ensures.rest ∙ c.requires.idle; within = c.in-Ok.ensures.within; whole = c.in-Ok.ensures.whole }

pub returns-in-Ok-clause-advanced : goal.returns-in-Ok-clause-advanced
returns-in-Ok-clause-advanced g c = λ n levels x less stands at.
    let old = c.args.self.now in
    let h = c.in-Ok.ensures.hands levels x stands in
    advanced_as n _ c.pass.result (λ r. looks_on n levels (core old) (with_run r x) less at)
    (handed_passed n (λ s c' y. seen_round n levels s c' y) c.pass.result old _ c.pass.new.self h c.pass.ensures.spares.device
    (c.pass.ensures.passed n levels h.world (omega (arith, h.steps, less)) h.stands at))

pub returns-in-Ok-clause-down : goal.returns-in-Ok-clause-down
returns-in-Ok-clause-down g c = down_from c.pass.result (measure c.args.self.now) _ (measure c.pass.new.self) (ap measure c.in-Ok.ensures.rest) c.pass.ensures.down

pub returns-in-Err-clause-advanced : goal.returns-in-Err-clause-advanced
returns-in-Err-clause-advanced g c = λ n levels x less stands at.
    advanced_as n _ (Err c.in-Err.fault) (λ r. looks_on n levels (core c.args.self.now) (with_run r x) less at)
    (handed_stopped n (λ s c' y. seen_round n levels s c' y) (c.in-Err.ensures.hands levels x stands))
