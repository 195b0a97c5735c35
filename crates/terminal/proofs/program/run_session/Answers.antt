use Rattle.interpreter.specs.Lines.{new_forth}
use Rattle.terminal.proofs.SessionRan.{session_ran}
use Rattle.terminal.proofs.program.run_session.Goals as goal

pub returns-in-Ok-end-clause-well : goal.returns-in-Ok-end-clause-well
returns-in-Ok-end-clause-well g c = λ m stands.
    session_ran g.D.SectorDevice (new_forth c.args.steps m) c.args.store c.run_over_traced-store.result.0 c.run_over_traced-store.result.1 c.in-Ok-end.field-0
    _ _ _ _ c.in-Ok-end.is (c.run_over_traced-store.ensures.session m stands)
