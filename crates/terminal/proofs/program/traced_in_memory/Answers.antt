use Rattle.terminal.proofs.Outcomes.{broke_so, well_so}
use Rattle.terminal.proofs.program.traced_in_memory.Goals as goal

pub returns-clause-well : goal.returns-clause-well
returns-clause-well g c = λ is. well_so _ c.run_in_memory-end.result c.done.result c.done.ensures (c.told.ensures.done is) c.run_in_memory-end.ensures.well

pub returns-clause-broken : goal.returns-clause-broken
returns-clause-broken g c = λ other.
    broke_so _ c.run_in_memory-end.result c.done.result _ c.done.ensures other c.told.ensures.stopped c.told.ensures.others c.told.ensures.failed
    c.run_in_memory-end.ensures.broken
