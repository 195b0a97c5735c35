use Rattle.image_care.proofs.Copies.{old_unknown}
use Rattle.image_care.proofs.copying.size_of_copy.Goals as goal

pub returns-in-None-clause-exact : goal.returns-in-None-clause-exact
returns-in-None-clause-exact c = old_unknown c.args.old c.args.new c.in-None.ensures.none
