use Rattle.std.proofs.Common.{◌∙◌, ap}
use Rattle.dictionary.specs.Words.{entry}
use Rattle.dictionary.specs.Callees.{callee_of}
use Rattle.dictionary.proofs.chains.Chains.callee_of_any.Goals as goal

pub returns : goal.returns
returns c = c.says_of_any.ensures ∙ c.self.invariant.2 c.args.token ∙ ap (λ ws. callee_of (entry ws c.args.token)) c.self.view_is
