use Rattle.data_space.proofs.Ranges.{buffer}
use Rattle.data_space.proofs.space.DataSpace.buffer.Goals as goal

pub returns-clause-value : goal.returns-clause-value
returns-clause-value c = buffer c.deref.result.now c.args.self.now c.buffer_start-start.result c.args.slot (cc) c.buffer_start-start.ensures
