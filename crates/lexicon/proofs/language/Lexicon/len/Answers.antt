use Rattle.std.proofs.Common.{◌∙◌}
use Rattle.lexicon.specs.Stands.{owner_in}
use Rattle.lexicon.proofs.Words.{words-length}
use Rattle.lexicon.proofs.language.Lexicon.len.Goals as goal

pub returns-clause-len : goal.returns-clause-len
returns-clause-len c = λ x h. c.len.ensures.len ∙ words-length c.args.self.now.code (owner_in x.words) 1 0 c.args.self.now.dictionary.words x.words h.words
