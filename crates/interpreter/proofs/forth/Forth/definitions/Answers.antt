use Rattle.std.proofs.Common.{refl, arith}
use Rattle.interpreter.specs.Lexicon.{language_of}
use Rattle.interpreter.proofs.Altering.{went, becoming}
use Rattle.interpreter.proofs.forth.Forth.definitions.Goals as goal

pub returns-clause-alters : goal.returns-clause-alters
returns-clause-alters g c = λ levels x stands.
    went _ (record x { current = x.first }) (becoming (record (language_of x) { current = x.first }) stands (c.set_current_to_first.ensures (language_of x) stands.rests.meant))
    (λ r. refl) refl (omega arith)
