use Rattle.lexicon.specs.Language.{marking}
use Rattle.lexicon.specs.Promise.{fault_of}
use Rattle.test_language.proofs.Ready.{kept}
use Rattle.test_language.proofs.words.desk.Desk.immediate.Goals as goal

pub returns-clause-ready : goal.returns-clause-ready
returns-clause-ready c =
    kept c.args.self.now.lexicon c.set_immediate.new.self (λ x. marking x) (λ e. fault_of e) c.args.self.now.machine c.args.self.now.returns c.set_immediate.result c.set_immediate.ensures.marked c.set_immediate.ensures.refused c.requires
