use Rattle.std.proofs.Common.{take, refl, arith}
use Rattle.interpreter.specs.Lexicon.{language_of}
use Rattle.dictionary.specs.Words.{Constant}
use Rattle.lexicon.specs.Language.{with_word}
use Rattle.interpreter.specs.Naming.{adding}
use Rattle.interpreter.proofs.Altering.{went, becoming}
use Rattle.interpreter.proofs.Added.{new_word}
use Rattle.interpreter.proofs.forth.Forth.add_constant.Goals as goal

pub returns-clause-alters : goal.returns-clause-alters
returns-clause-alters g c = λ levels x stands.
    let name = take c.args.count c.args.self.now.text in
    went _ (adding name (Constant c.args.cell) x)
    (becoming (with_word name (Constant c.args.cell) (language_of x)) stands
    (new_word c.add_constant.result c.args.self.now.lexicon c.add_constant.new.self name (λ m. with_word name (Constant c.args.cell) m) (language_of x) c.requires.fits stands.rests.meant c.add_constant.ensures.created c.add_constant.ensures.refused))
    (λ r. refl) refl (omega arith)
