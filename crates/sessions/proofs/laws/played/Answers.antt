use Rattle.sessions.proofs.Played.{played_is}
use Rattle.sessions.proofs.laws.played.Goals as goal

pub returns : goal.returns
returns c s input answers whole = played_is s input answers whole
