use Rattle.lexicon.specs.Language.{ending}
use Rattle.compiler.specs.Promise.{fault_of as compile_fault}
use Rattle.test_language.proofs.Ready.{kept}
use Rattle.test_language.proofs.words.desk.Desk.finish.Goals as goal

pub returns-clause-ready : goal.returns-clause-ready
returns-clause-ready c =
    kept c.args.self.now.lexicon c.finish.new.self (λ x. ending x) (λ e. compile_fault e) c.args.self.now.machine c.args.self.now.returns c.finish.result c.finish.ensures.ended c.finish.ensures.refused c.requires
