use Rattle.std.proofs.Common.{refl, ap, arith}
use Rattle.cell_machine.specs.Frames.{around_of}
use Rattle.interpreter.specs.State.{with_run}
use Rattle.interpreter.specs.Lexicon.{language_of, with_language, stepped}
use Rattle.interpreter.specs.Representation.{core}
use Rattle.lexicon.specs.Language.{forgetting}
use Rattle.interpreter.proofs.Altering.{went}
use Rattle.interpreter.proofs.Stepping.{gave_refused}
use Rattle.interpreter.proofs.forth.Forth.forget_from.Goals as goal

pub returns-in-Ok-clause-alters : goal.returns-in-Ok-clause-alters
returns-in-Ok-clause-alters g c = λ levels x stands.
    let forgotten = rw c.stack.ensures at c.in-Ok.ensures.forgotten in
    let f = forgotten (language_of x) levels stands.rests.meant stands.left in
    let old = stands.rests in
    went _ (with_language f.0 x)
    (record { rests = record { meant = f.1.1; held_end = old.held_end; held = old.held; buffers = old.buffers; loads = old.loads; maps = old.maps }; left = f.1.2 })
    (λ r. ap (λ a. stepped a (λ c. c) (core c.args.self.now) (with_run r x)) f.1.0) refl (omega arith)

pub returns-in-Err-clause-alters : goal.returns-in-Err-clause-alters
returns-in-Err-clause-alters g c = λ levels x stands.
    let refused = rw c.stack.ensures at c.in-Err.ensures.refused in
    gave_refused c.args.self.now _ c.args.self.now.lexicon (forgetting c.args.token (around_of levels).running (language_of x)) (λ c. c) (core c.args.self.now) stands
    (refused.0 (language_of x) levels stands.rests.meant stands.left) refused.1 c.lexicon_fault.ensures.fault (λ r. refl) refl (omega arith)
