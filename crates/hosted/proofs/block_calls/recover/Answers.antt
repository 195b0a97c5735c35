use Rattle.hosted.specs.Calls.{meant_by}
use Rattle.hosted.proofs.Stores.{held_leaves}
use Rattle.hosted.proofs.block_calls.recover.Goals as goal

pub returns-in-Ok-clause-ok : goal.returns-in-Ok-clause-ok
returns-in-Ok-clause-ok g c = λ keeps. held_leaves g.D.SectorDevice c.in-Ok.recovered _ _ (meant_by g.D.SectorDevice c.args.device) (c.in-Ok.ensures.holds keeps)
