use Rattle.test_language.proofs.Ready.{goes_on}
use Rattle.test_language.proofs.words.desk.Desk.resume.Goals as goal

pub returns-clause-ready : goal.returns-clause-ready
returns-clause-ready c =
    goes_on c.args.self.now.lexicon c.resume.result c.args.self.now.machine c.resume.new.machine c.args.self.now.returns c.resume.new.returns _ _ c.resume.ensures.runs c.requires
