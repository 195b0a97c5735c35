use Rattle.std.proofs.Common.{ap}
use Rattle.lexicon.specs.Kinds.{is_immediate}
use Rattle.lexicon.proofs.Looking.{looks_immediate, looks_none}
use Rattle.lexicon.proofs.language.Lexicon.is_immediate.Goals as goal

pub returns-in-Some : goal.returns-in-Some
returns-in-Some c =
    λ x h. looks_immediate c.args.self.now x h c.args.token _ c.in-Some.ensures.entry

pub returns-in-None : goal.returns-in-None
returns-in-None c =
    λ x h. ap is_immediate (looks_none c.args.self.now x h c.args.token c.in-None.ensures.entry)
