use Rattle.std.proofs.Common.{◌∙◌}
use Rattle.sessions.proofs.Strict.{failed_by_abort, failed_by_fault}
use Rattle.sessions.proofs.session.has_failed.Goals as goal

pub returns-in-Some : goal.returns-in-Some
returns-in-Some g c = failed_by_fault (g.F.Lines.ending c.args.end.now) (g.F.Lines.placed c.args.forth.now) c.in-Some.field-0 c.in-Some.ensures

pub returns-in-None : goal.returns-in-None
returns-in-None g c = c.has_aborted.ensures ∙ failed_by_abort (g.F.Lines.ending c.args.end.now) (g.F.Lines.placed c.args.forth.now) c.in-None.ensures c.requires.answered c.requires.placed
