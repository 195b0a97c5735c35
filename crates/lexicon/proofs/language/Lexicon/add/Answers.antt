use Rattle.std.proofs.Common.{◌∙◌}
use Rattle.lexicon.proofs.Adding.{adds_data}
use Rattle.lexicon.proofs.Ending.{is_added}
use Rattle.lexicon.proofs.language.Lexicon.add.Goals as goal

pub returns-in-Ok-clause-added : goal.returns-in-Ok-clause-added
returns-in-Ok-clause-added c =
    λ x kind h d. adds_data c.args.self.now x h c.args.name.now c.in-Ok.ensures.fits c.args.kind kind d c.add.new.self (is_added c.add.result (c.add.ensures.refused ∙ c.in-Ok.ensures.fits.room) c.add.ensures.ok)
