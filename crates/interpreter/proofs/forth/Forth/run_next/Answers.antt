use Rattle.std.proofs.Common.{refl, sym, ap, ◌∷◌, arith}
use Rattle.cell_machine.specs.Frames.{Once}
use Rattle.interpreter.specs.State.{with_run}
use Rattle.interpreter.specs.Law.{left}
use Rattle.interpreter.specs.Lexicon.{language_of}
use Rattle.interpreter.specs.Representation.{core}
use Rattle.interpreter.proofs.Entering.{word_entered, left_entered}
use Rattle.interpreter.proofs.forth.Forth.run_next.Goals as goal

pub returns-clause-entered : goal.returns-clause-entered
returns-clause-entered g c = λ n levels x stands.
    let old = c.args.self.now in
    let refused_it = rw c.lend.ensures.value at c.enter.ensures.refused in
    let entered_it = rw c.lend.ensures.value at c.enter.ensures.entered in
    let e = word_entered c.enter.result c.args.token old.returns old.stack refused_it entered_it old.lexicon.code in
    record {
      levels = Once c.args.token ∷ levels;
      world = x;
      stands = record { rests = stands.rests; left = left_entered old.lexicon (language_of x) c.args.token old.machine c.enter.new.self old.returns c.enter.new.returns old.stack c.enter.new.stack levels e stands.left };
      goes = λ r. ap (λ l. left n (Once c.args.token ∷ levels) (record (core old) { stack = l }) (with_run r x)) (sym e.0);
      maps = refl;
      steps = omega arith;
    }
