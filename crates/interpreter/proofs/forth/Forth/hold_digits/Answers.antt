use Rattle.std.proofs.Common.{Err, subst, ap, sym, ◌∙◌}
use Rattle.std.proofs.Math.Nat.{mod-eq_of_lt}
use Rattle.number_io.specs.Digits.{digit_char}
use Rattle.interpreter.specs.State.{with_run}
use Rattle.interpreter.specs.Representation.{core}
use Rattle.interpreter.specs.ServiceContract.{Altered}
use Rattle.interpreter.proofs.Holding.{held_one, held_no_more, held_last, all_of}
use Rattle.interpreter.proofs.forth.Forth.hold_digits.Goals as goal

pub loop-rest-preserved : goal.loop-rest-preserved
loop-rest-preserved g c =
    let so_far = c.loop-rest.invariant in
    let held = c.in-Ok.ensures in
    record {
      held = λ levels x stands.
          let h = so_far.held levels x stands in
          held_one h so_far.low c.loop-rest-test.true c.digit_char.ensures (held.alters levels h.world h.stands);
      device = held.spares.device ∙ so_far.device;
      budget = held.spares.budget ∙ so_far.budget;
      stack = held.stack ∙ so_far.stack;
      low = so_far.low;
      high = so_far.high;
    }

pub returns-in-Err-clause-alters : goal.returns-in-Err-clause-alters
returns-in-Err-clause-alters g c = λ levels x stands.
    let so_far = c.loop-rest.invariant in
    let h = so_far.held levels x stands in
    subst (λ b. Altered (λ r. all_of b c.args.number (core c.args.self.now) (with_run r x)) (Err c.in-Err.fault) c.args.self.now c.hold.new.self levels x) c.from-base.ensures
    (held_no_more h so_far.low c.loop-rest-test.true c.digit_char.ensures (c.in-Err.ensures.alters levels h.world h.stands))

pub returns-clause-alters : goal.returns-clause-alters
returns-clause-alters g c = λ levels x stands.
    let so_far = c.loop-rest.invariant in
    let h = so_far.held levels x stands in
    subst (λ b. Altered (λ r. all_of b c.args.number (core c.args.self.now) (with_run r x)) c.hold-2.result c.args.self.now c.hold-2.new.self levels x) c.from-base.ensures
    (held_last h c.hold-2.result c.loop-rest-test.false (c.digit_char-2.ensures ∙ ap digit_char (sym (mod-eq_of_lt c.loop-rest-test.false))) (c.hold-2.ensures.alters levels h.world h.stands))
