use Rattle.std.proofs.Common.{ap, ◌∙◌}
use Rattle.lexicon.specs.Kinds.{data_address}
use Rattle.lexicon.proofs.Looking.{looks_address, looks_none}
use Rattle.lexicon.proofs.language.Lexicon.data_address.Goals as goal

pub returns-in-Some : goal.returns-in-Some
returns-in-Some c =
    λ x h. c.data_field.ensures ∙ looks_address c.args.self.now x h c.args.token _ c.in-Some.ensures.entry

pub returns-in-None : goal.returns-in-None
returns-in-None c =
    λ x h. ap data_address (looks_none c.args.self.now x h c.args.token c.in-None.ensures.entry)
