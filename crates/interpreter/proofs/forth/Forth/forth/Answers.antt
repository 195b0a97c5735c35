use Rattle.std.proofs.Common.{refl, arith}
use Rattle.interpreter.specs.Lexicon.{language_of}
use Rattle.dictionary.specs.Words.{forth_token}
use Rattle.interpreter.proofs.Altering.{went, becoming}
use Rattle.interpreter.proofs.forth.Forth.forth.Goals as goal

pub returns-clause-alters : goal.returns-clause-alters
returns-clause-alters g c = λ levels x stands.
    went _ (record x { first = forth_token }) (becoming (record (language_of x) { first = forth_token }) stands (c.set_first_to_forth.ensures (language_of x) stands.rests.meant))
    (λ r. refl) refl (omega arith)
