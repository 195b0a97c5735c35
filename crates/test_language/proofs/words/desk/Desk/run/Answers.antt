use Rattle.test_language.proofs.Ready.{entered_word}
use Rattle.test_language.proofs.words.desk.Desk.run.Goals as goal

pub resume-requires : goal.resume-requires
resume-requires c =
    entered_word c.args.self.now.lexicon c.args.token c.args.self.now.machine c.enter.new.self c.args.self.now.returns c.enter.new.returns _ _ c.enter.result c.enter.ensures.entered c.enter.ensures.refused c.requires.ready
