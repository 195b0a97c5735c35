use Rattle.lexicon.specs.Language.{changing}
use Rattle.compiler.specs.Promise.{fault_of as compile_fault}
use Rattle.compiler.specs.Definition.{add_word}
use Rattle.test_language.proofs.Ready.{kept}
use Rattle.test_language.proofs.words.desk.Desk.compile.Goals as goal

pub returns-clause-ready : goal.returns-clause-ready
returns-clause-ready c =
    kept c.args.self.now.lexicon c.compile.new.self (λ x. changing (λ used. add_word used c.args.token) x) (λ e. compile_fault e) c.args.self.now.machine c.args.self.now.returns c.compile.result c.compile.ensures.added c.compile.ensures.refused c.requires.ready
