use Rattle.cell_machine.proofs.Keeps.{step_keeps}
use Rattle.cell_machine.proofs.Served.{calling_keeps}
use Rattle.cell_machine.proofs.laws.calls_keep.Goals as goal

pub returns-clause-steps : goal.returns-clause-steps
returns-clause-steps g c f serve text back frugal levels core x h = step_keeps f serve frugal text back levels core x h

pub returns-clause-calls : goal.returns-clause-calls
returns-clause-calls g c f serve text back words x keeps serves k levels core h =
    calling_keeps f serve text back words x keeps serves k levels core h
