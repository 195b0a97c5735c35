use Rattle.terminal.proofs.ScriptLemmas.{begun_with, replaced}
use Rattle.terminal.proofs.scripts.lead_by.Goals as goal

pub returns-in-Ok-clause-led : goal.returns-in-Ok-clause-led
returns-in-Ok-clause-led g c = begun_with _ _ _ _ c.if-goes_on.true c.in-Ok.ensures.ok

pub returns-else-goes_on-clause-led : goal.returns-else-goes_on-clause-led
returns-else-goes_on-clause-led g c = replaced _ _ _ _ c.if-goes_on.false c.replace_by.ensures
