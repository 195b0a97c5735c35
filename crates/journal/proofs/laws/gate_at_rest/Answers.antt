use Rattle.journal.proofs.Gates.{at_rest}
use Rattle.journal.proofs.laws.gate_at_rest.Goals as goal

pub returns : goal.returns
returns c = at_rest
