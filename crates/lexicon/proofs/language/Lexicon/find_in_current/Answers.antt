use Rattle.std.proofs.Common.{◌∙◌, ap}
use Rattle.dictionary.specs.Words.{find_in}
use Rattle.lexicon.proofs.Looking.{finds_in, found_words}
use Rattle.lexicon.proofs.language.Lexicon.find_in_current.Goals as goal

pub returns-clause-found : goal.returns-clause-found
returns-clause-found c =
    λ x h. c.find_in.ensures.found ∙ finds_in c.args.self.now x h _ c.args.name.now ∙ ap (λ v. find_in x.words v c.args.name.now) (c.current.ensures.current ∙ h.current)

pub returns-clause-word : goal.returns-clause-word
returns-clause-word c =
    found_words c.args.self.now c.find_in.result c.find_in.ensures.token
