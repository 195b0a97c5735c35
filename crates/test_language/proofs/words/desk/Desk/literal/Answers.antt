use Rattle.lexicon.specs.Language.{changing}
use Rattle.compiler.specs.Promise.{fault_of as compile_fault}
use Rattle.compiler.specs.Definition.{add_literal}
use Rattle.test_language.proofs.Ready.{kept}
use Rattle.test_language.proofs.words.desk.Desk.literal.Goals as goal

pub returns-clause-ready : goal.returns-clause-ready
returns-clause-ready c =
    kept c.args.self.now.lexicon c.literal.new.self (λ x. changing (λ used. add_literal used c.args.cell) x) (λ e. compile_fault e) c.args.self.now.machine c.args.self.now.returns c.literal.result c.literal.ensures.added c.literal.ensures.refused c.requires
