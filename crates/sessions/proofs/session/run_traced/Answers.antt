use Rattle.sessions.proofs.Running.{runs_so}
use Rattle.sessions.proofs.Freely.{completes_freely}
use Rattle.sessions.proofs.session.run_traced.Goals as goal

pub returns-in-Ok-clause-ok : goal.returns-in-Ok-clause-ok
returns-in-Ok-clause-ok g c = runs_so g.D.SectorDevice g.F.Lines.stands g.F.Lines.device _ _ _ _ c.in-Ok.ensures.runs
    (λ opening closing made h. completes_freely g.T.Tracer.hears g.D.SectorDevice c.in-Ok.field-0 opening closing _ _ _ _ _ _ made _ _ h)

pub returns-in-Err-clause-err : goal.returns-in-Err-clause-err
returns-in-Err-clause-err g c = runs_so g.D.SectorDevice g.F.Lines.stands g.F.Lines.device _ _ _ _ c.in-Err.ensures.runs (λ opening closing made h. h.cut)
