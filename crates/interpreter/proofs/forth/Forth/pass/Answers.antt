use Rattle.std.proofs.Common.{◌≡◌, ◌<◌, ◌-◌, length, take, Ok, Err, refl, sym, ap, ◌∙◌, arith}
use Rattle.std.proofs.lemmas.Grind.{common_steps}
use Rattle.data_space.specs.Space.{with_cell}
use Rattle.stacks.specs.Stacks.{units}
use Rattle.interpreter.specs.declared.interpreting.Round.TheVariants.{GoesOn}
use Rattle.interpreter.specs.State.{with_run, without_load, set_cell, to_in_cell}
use Rattle.interpreter.specs.Representation.{core}
use Rattle.interpreter.specs.TextRounds.{after_text, treated}
use Rattle.interpreter.proofs.Treating.{no-word, word-unpaid, word-paid}
use Rattle.interpreter.proofs.Advancing.{entered_passed, passed_as, paid_down}
use Rattle.interpreter.proofs.forth.Forth.pass.Goals as goal

pub returns-then-look-eq0-clause-passed : goal.returns-then-look-eq0-clause-passed
returns-then-look-eq0-clause-passed g c = λ n levels x less stands at.
    let old = c.args.self.now in
    let wrote : c.set_cell.new.self ≡ with_cell old.space 20 c.args.look.behind = grind (arith, common_steps, c.set_cell.ensures.after, c.set_cell.ensures.within) in
    passed_as n _ (Ok c.leave_text.result) old
    (λ r. no-word n levels (take c.args.look.count old.text) (λ c'. set_cell to_in_cell c.args.look.behind c') (core old) (with_run r x) (c.requires.whole ∙ c.if-look-eq0.true)
    ∙ ap (λ s. after_text n levels (record (core old) { space = s }) (with_run r (without_load x))) (sym wrote))
    (omega arith) (c.leave_text.ensures.passed n levels x stands at)

pub returns-then-self-eq0-clause-passed : goal.returns-then-self-eq0-clause-passed
returns-then-self-eq0-clause-passed g c = λ n levels x less stands at.
    let old = c.args.self.now in
    let some : 0 < length (take c.args.look.count old.text) = omega (arith, c.requires.whole, c.if-look-eq0.false) in
    record {
      levels = levels;
      world = x;
      stands = stands.rests;
      goes = (core old, refl, λ r. word-unpaid n levels (take c.args.look.count old.text) (λ c'. set_cell to_in_cell c.args.look.behind c') (core old) (with_run r x) some c.if-self-eq0.true);
      maps = refl;
      steps = omega arith;
    }

pub returns-in-Ok-clause-passed : goal.returns-in-Ok-clause-passed
returns-in-Ok-clause-passed g c = λ n levels x less stands at.
    let old = c.args.self.now in
    let word = take c.args.look.count old.text in
    let some : 0 < length (take c.args.look.count old.text) = omega (arith, c.requires.whole, c.if-look-eq0.false) in
    let wrote : c.set_cell-2.new.self ≡ with_cell old.space 20 c.args.look.behind = grind (arith, common_steps, c.set_cell-2.ensures.after, c.set_cell-2.ensures.within) in
    passed_as n _ (Ok GoesOn) old
    (λ r. word-paid n levels word (λ c'. set_cell to_in_cell c.args.look.behind c') (core old) (with_run r x) some (omega (arith, c.if-self-eq0.false))
    ∙ ap (λ s. treated n levels word (record (core old) { steps = old.steps - 1; space = s }) (with_run r x)) (sym wrote))
    (omega arith) (entered_passed n (Ok tt) (c.in-Ok.ensures.entered n levels x stands))

pub returns-in-Ok-clause-down : goal.returns-in-Ok-clause-down
returns-in-Ok-clause-down g c =
    let s = c.requires.sound in
    let h = c.in-Ok.ensures.entered 0 s.0 s.1 s.2 in
    paid_down c.args.self.now.steps c.treat.new.self.steps (units c.args.self.now.returns) (units c.treat.new.self.returns) (omega (arith, h.steps, c.if-self-eq0.false))

pub returns-in-Err-clause-passed : goal.returns-in-Err-clause-passed
returns-in-Err-clause-passed g c = λ n levels x less stands at.
    let old = c.args.self.now in
    let word = take c.args.look.count old.text in
    let some : 0 < length (take c.args.look.count old.text) = omega (arith, c.requires.whole, c.if-look-eq0.false) in
    let wrote : c.set_cell-2.new.self ≡ with_cell old.space 20 c.args.look.behind = grind (arith, common_steps, c.set_cell-2.ensures.after, c.set_cell-2.ensures.within) in
    passed_as n _ (Err c.in-Err.fault) old
    (λ r. word-paid n levels word (λ c'. set_cell to_in_cell c.args.look.behind c') (core old) (with_run r x) some (omega (arith, c.if-self-eq0.false))
    ∙ ap (λ s. treated n levels word (record (core old) { steps = old.steps - 1; space = s }) (with_run r x)) (sym wrote))
    (omega arith) (entered_passed n (Err c.in-Err.fault) (c.in-Err.ensures.entered n levels x stands))
