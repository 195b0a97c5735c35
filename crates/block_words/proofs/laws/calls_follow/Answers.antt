use Rattle.block_words.proofs.Then.{keeps_then}
use Rattle.block_words.proofs.laws.calls_follow.Goals as goal

pub returns : goal.returns
returns g c = keeps_then g.D.SectorDevice g.met.D.SectorDevice.counts_now g.met.D.SectorDevice.widens g.met.D.SectorDevice.only_now
