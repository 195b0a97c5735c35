use Rattle.lexicon.specs.Language.{changing}
use Rattle.compiler.specs.Promise.{kind_of, fault_of as compile_fault}
use Rattle.compiler.specs.Definition.{add_text}
use Rattle.test_language.proofs.Ready.{kept}
use Rattle.test_language.proofs.words.desk.Desk.text.Goals as goal

pub returns-clause-ready : goal.returns-clause-ready
returns-clause-ready c =
    kept c.args.self.now.lexicon c.add_text.new.self (λ x. changing (λ used. add_text used (kind_of c.args.kind) c.args.bytes.now) x) (λ e. compile_fault e) c.args.self.now.machine c.args.self.now.returns c.add_text.result c.add_text.ensures.added c.add_text.ensures.refused c.requires.ready
