use Rattle.sessions.proofs.Running.{err_so, ok_so}
use Rattle.sessions.proofs.session.run.Goals as goal

pub returns-clause-ok : goal.returns-clause-ok
returns-clause-ok g c = ok_so g.D.SectorDevice g.F.Lines.stands g.F.Lines.device c.run_traced.result _ _ _ _ c.run_traced.ensures.ok (λ opening closing made h. h.run)

pub returns-clause-err : goal.returns-clause-err
returns-clause-err g c = err_so g.D.SectorDevice g.F.Lines.stands g.F.Lines.device c.run_traced.result _ _ _ _ c.run_traced.ensures.err (λ e opening closing made h. h.run)
