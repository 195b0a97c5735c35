use Rattle.std.proofs.Common.{refl, arith}
use Rattle.lexicon.specs.Language.{changing as change}
use Rattle.lexicon.specs.Structures.{adding}
use Rattle.interpreter.specs.Representation.{core}
use Rattle.interpreter.specs.Lexicon.{as_it_is}
use Rattle.interpreter.proofs.Stepping.{step_done, step_refused}
use Rattle.interpreter.proofs.forth.Forth.structure.Goals as goal

pub returns-in-Ok-clause-alters : goal.returns-in-Ok-clause-alters
returns-in-Ok-clause-alters g c = λ levels x stands.
    step_done c.args.self.now _ c.args.self.now.lexicon (change (adding c.args.structure)) as_it_is (core c.args.self.now) stands c.in-Ok.ensures.added
    (λ r. refl) refl (omega arith)

pub returns-in-Err-clause-alters : goal.returns-in-Err-clause-alters
returns-in-Err-clause-alters g c = λ levels x stands.
    step_refused c.args.self.now _ c.args.self.now.lexicon (change (adding c.args.structure)) as_it_is (core c.args.self.now) stands c.in-Err.ensures.refused c.compile_fault.ensures.fault
    (λ r. refl) refl (omega arith)
