use Rattle.sessions.proofs.OneSession.{one_session}
use Rattle.sessions.proofs.laws.one_session.Goals as goal

pub returns : goal.returns
returns c opening input turns turns' closing closing' s s' calm calm' =
    one_session turns turns' opening input closing closing' s s' calm calm'
