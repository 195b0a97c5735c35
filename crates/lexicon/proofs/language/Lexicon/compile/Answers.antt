use Rattle.compiler.specs.Definition.{add_word}
use Rattle.lexicon.proofs.Lifting.{lifted_ok, word-keeps}
use Rattle.lexicon.proofs.language.Lexicon.compile.Goals as goal

pub returns-clause-added : goal.returns-clause-added
returns-clause-added c =
    lifted_ok c.args.self.now c.call.new.self c.call.new.code (λ u. add_word u c.args.token) (record { keeps = λ u d. word-keeps u d c.args.token }) c.call.ensures.bodies c.call.result c.call.ensures.added
