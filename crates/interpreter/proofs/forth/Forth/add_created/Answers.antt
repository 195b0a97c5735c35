use Rattle.std.proofs.Common.{take, None, refl, arith}
use Rattle.interpreter.specs.Lexicon.{language_of}
use Rattle.dictionary.specs.Words.{Created}
use Rattle.lexicon.specs.Language.{with_word}
use Rattle.interpreter.specs.Naming.{adding}
use Rattle.interpreter.proofs.Altering.{went, becoming}
use Rattle.interpreter.proofs.Added.{new_word}
use Rattle.interpreter.proofs.forth.Forth.add_created.Goals as goal

pub returns-clause-alters : goal.returns-clause-alters
returns-clause-alters g c = λ levels x stands.
    let name = take c.args.count c.args.self.now.text in
    went _ (adding name (Created x.here None) x)
    (becoming (with_word name (Created x.here None) (language_of x)) stands
    (new_word c.create.result c.args.self.now.lexicon c.create.new.self name (λ m. with_word name (Created m.here None) m) (language_of x) c.requires.fits stands.rests.meant c.create.ensures.created c.create.ensures.refused))
    (λ r. refl) refl (omega arith)
