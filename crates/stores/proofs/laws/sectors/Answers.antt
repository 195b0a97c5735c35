use Rattle.journal.proofs.Suited.{sectors_suit}
use Rattle.stores.proofs.laws.sectors.Goals as goal

pub returns : goal.returns
returns g c = sectors_suit g.D.SectorDevice g.met.D.SectorDevice.keeps_both c.args.device.now
