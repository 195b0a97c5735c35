use Rattle.std.proofs.Common.{take, refl, arith}
use Rattle.interpreter.specs.Lexicon.{language_of}
use Rattle.dictionary.specs.Words.{Vocabulary}
use Rattle.lexicon.specs.Language.{with_word}
use Rattle.interpreter.specs.Naming.{adding}
use Rattle.interpreter.proofs.Altering.{went, becoming}
use Rattle.interpreter.proofs.Added.{new_word}
use Rattle.interpreter.proofs.forth.Forth.add_vocabulary.Goals as goal

pub returns-clause-alters : goal.returns-clause-alters
returns-clause-alters g c = λ levels x stands.
    let name = take c.args.count c.args.self.now.text in
    went _ (adding name Vocabulary x)
    (becoming (with_word name Vocabulary (language_of x)) stands
    (new_word c.add_vocabulary.result c.args.self.now.lexicon c.add_vocabulary.new.self name (λ m. with_word name Vocabulary m) (language_of x) c.requires.fits stands.rests.meant c.add_vocabulary.ensures.created c.add_vocabulary.ensures.refused))
    (λ r. refl) refl (omega arith)
