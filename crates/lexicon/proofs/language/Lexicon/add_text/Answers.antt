use Rattle.compiler.specs.Definition.{add_text}
use Rattle.compiler.specs.Promise.{kind_of}
use Rattle.lexicon.proofs.Lifting.{lifted_ok, text-keeps}
use Rattle.lexicon.proofs.language.Lexicon.add_text.Goals as goal

pub returns-clause-added : goal.returns-clause-added
returns-clause-added c =
    lifted_ok c.args.self.now c.text.new.self c.text.new.code (λ u. add_text u (kind_of c.args.kind) c.args.bytes.now) (record { keeps = λ u d. text-keeps u d (kind_of c.args.kind) c.args.bytes.now }) c.text.ensures.bodies c.text.result c.text.ensures.added
