use Rattle.lexicon.specs.Language.{beginning}
use Rattle.lexicon.specs.Promise.{fault_of}
use Rattle.test_language.proofs.Ready.{kept}
use Rattle.test_language.proofs.words.desk.Desk.begin.Goals as goal

pub returns-clause-ready : goal.returns-clause-ready
returns-clause-ready c =
    kept c.args.self.now.lexicon c.begin.new.self (λ x. beginning c.args.name.now x) (λ e. fault_of e) c.args.self.now.machine c.args.self.now.returns c.begin.result c.begin.ensures.begun c.begin.ensures.refused c.requires
