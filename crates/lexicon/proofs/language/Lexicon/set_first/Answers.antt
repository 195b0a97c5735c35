use Rattle.lexicon.proofs.Adding.{vocabulary_word}
use Rattle.lexicon.proofs.language.Lexicon.set_first.Goals as goal

pub set_context-requires : goal.set_context-requires
set_context-requires c =
    vocabulary_word c.args.self.now c.requires.0 c.args.vocabulary c.requires.1.0 c.requires.1.1
