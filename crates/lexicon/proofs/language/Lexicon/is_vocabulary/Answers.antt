use Rattle.std.proofs.Common.{ap, ◌∙◌}
use Rattle.lexicon.specs.Kinds.{is_vocabulary}
use Rattle.lexicon.proofs.Looking.{looks_vocabulary, looks_none}
use Rattle.lexicon.proofs.language.Lexicon.is_vocabulary.Goals as goal

pub returns-in-Some : goal.returns-in-Some
returns-in-Some c =
    λ x h. c.makes_vocabulary.ensures ∙ looks_vocabulary c.args.self.now x h c.args.token _ c.in-Some.ensures.entry

pub returns-in-None : goal.returns-in-None
returns-in-None c =
    λ x h. ap is_vocabulary (looks_none c.args.self.now x h c.args.token c.in-None.ensures.entry)
