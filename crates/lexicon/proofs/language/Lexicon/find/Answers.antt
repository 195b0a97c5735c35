use Rattle.std.proofs.Common.{◌∙◌}
use Rattle.lexicon.proofs.Looking.{finds, found_words}
use Rattle.lexicon.proofs.language.Lexicon.find.Goals as goal

pub returns-clause-found : goal.returns-clause-found
returns-clause-found c =
    λ x h. c.find.ensures.found ∙ finds c.args.self.now x h c.args.name.now

pub returns-clause-word : goal.returns-clause-word
returns-clause-word c =
    found_words c.args.self.now c.find.result c.find.ensures.token
