use Rattle.lexicon.specs.Language.{changing}
use Rattle.compiler.specs.Promise.{fault_of as compile_fault}
use Rattle.lexicon.specs.Structures.{adding}
use Rattle.test_language.proofs.Ready.{kept}
use Rattle.test_language.proofs.words.desk.Desk.structure.Goals as goal

pub returns-clause-ready : goal.returns-clause-ready
returns-clause-ready c =
    kept c.args.self.now.lexicon c.add_structure.new.self (λ x. changing (adding c.args.structure) x) (λ e. compile_fault e) c.args.self.now.machine c.args.self.now.returns c.add_structure.result c.add_structure.ensures.added c.add_structure.ensures.refused c.requires
