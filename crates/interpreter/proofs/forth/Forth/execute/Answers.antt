use Rattle.std.proofs.Common.{◌≡◌, ◌∙◌, suc, true, false, refl, sym, ap, ◌∷◌, arith}
use Rattle.cell_machine.specs.Frames.{Once}
use Rattle.cell_machine.specs.Value.{and_then}
use Rattle.interpreter.specs.State.{with_run}
use Rattle.interpreter.specs.Law.{left}
use Rattle.interpreter.specs.Lexicon.{language_of}
use Rattle.interpreter.specs.Text.{may_execute}
use Rattle.interpreter.specs.Representation.{core}
use Rattle.interpreter.proofs.Altering.{refused}
use Rattle.interpreter.proofs.Enter.{enter_word}
use Rattle.interpreter.proofs.Entering.{word_entered, left_entered, not_entered}
use Rattle.interpreter.proofs.Short.{popping-one, popping-none, needing-no, needing-yes}
use Rattle.interpreter.proofs.forth.Forth.execute.Goals as goal

pub returns-in_default-clause-entered : goal.returns-in_default-clause-entered
returns-in_default-clause-entered g c = λ m levels x less stands.
    not_entered (suc m)
    (refused _ stands (core c.args.self.now) refl (λ r. ap (λ o. and_then o (λ c x. left (suc m) levels c x)) (popping-none (core c.args.self.now) (with_run r x) _ c.in_default.ensures.empty)) (omega arith))

pub returns-then-not-may_execute-clause-entered : goal.returns-then-not-may_execute-clause-entered
returns-then-not-may_execute-clause-entered g c = λ m levels x less stands.
    let may_not : may_execute c.in-Ok.token x ≡ false = sym (c.may_execute.ensures x stands.rests) ∙ c.if-not-may_execute.true in
    not_entered (suc m)
    (refused _ stands (record (core c.args.self.now) { stack = c.pop.new.self }) refl
    (λ r. ap (λ o. and_then o (λ c x. left (suc m) levels c x)) (popping-one (core c.args.self.now) (with_run r x) _ _ _ c.in-Ok.ensures.ok ∙ needing-no _ _ _ _ _ may_not)) (omega arith))

pub returns-clause-entered : goal.returns-clause-entered
returns-clause-entered g c = λ m levels x less stands.
    let old = c.args.self.now in
    let popped = record (core old) { stack = c.pop.new.self } in
    let may : may_execute c.in-Ok.token x ≡ true = sym (c.may_execute.ensures x stands.rests) ∙ c.if-not-may_execute.false in
    let refused_it = rw c.lend.ensures.value at c.enter.ensures.refused in
    let entered_it = rw c.lend.ensures.value at c.enter.ensures.entered in
    let e = word_entered c.enter.result c.in-Ok.token old.returns c.pop.new.self refused_it entered_it old.lexicon.code in
    record {
      levels = Once c.in-Ok.token ∷ levels;
      world = x;
      stands = record { rests = stands.rests; left = left_entered old.lexicon (language_of x) c.in-Ok.token old.machine c.enter.new.self old.returns c.enter.new.returns c.pop.new.self c.enter.new.stack levels e stands.left };
      goes = λ r.
          ap (λ o. and_then o (λ c x. left (suc m) levels c x)) (popping-one (core old) (with_run r x) _ _ _ c.in-Ok.ensures.ok ∙ needing-yes _ _ _ _ _ may)
          ∙ enter_word m c.in-Ok.token levels popped (with_run r x) less
          ∙ ap (λ l. left (suc m) (Once c.in-Ok.token ∷ levels) (record popped { stack = l }) (with_run r x)) (sym e.0);
      maps = refl;
      steps = omega arith;
    }
