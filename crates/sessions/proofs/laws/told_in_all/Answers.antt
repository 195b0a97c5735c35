use Rattle.sessions.proofs.Rising.{told_in_all}
use Rattle.sessions.proofs.laws.told_in_all.Goals as goal

pub returns : goal.returns
returns g c old new turns told = told_in_all g.D.SectorDevice old new turns told
