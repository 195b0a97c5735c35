use Rattle.sessions.proofs.EventLemmas.{events_undone}
use Rattle.sessions.proofs.laws.failed_events.Goals as goal

pub returns : goal.returns
returns c = events_undone
