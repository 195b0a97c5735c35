use Rattle.std.proofs.Common.{◌∙◌}
use Rattle.lexicon.proofs.Ending.{ended, is_added}
use Rattle.lexicon.proofs.language.Lexicon.finish.Goals as goal

pub returns-in-Ok-clause-ended : goal.returns-in-Ok-clause-ended
returns-in-Ok-clause-ended c =
    ended c.args.self.now c.finish.new.self c.finish.new.code c.in-Ok.place c.in-Ok.ensures.finished c.finish.ensures.below c.name.result.now c.add.new.self c.name.ensures c.finish.ensures.named
    (λ e. is_added c.add.result (c.add.ensures.refused ∙ e) c.add.ensures.ok)
