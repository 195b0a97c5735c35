use Rattle.std.proofs.lemmas.Result.{IfOk-weaker}
use Rattle.terminal.proofs.Ended.{just_said}
use Rattle.terminal.proofs.TextLemmas.{said_named}
use Rattle.terminal.proofs.importing.read_file.Goals as goal

pub returns-in-Ok-clause-said : goal.returns-in-Ok-clause-said
returns-in-Ok-clause-said g c =
    IfOk-weaker c.read_said.result _ _
    (λ bytes read. said_named g.X.Text.Read.remaining _ c.in-Ok.reader c.in-Ok.ensures.named c.args.form c.args.room bytes.items read) c.read_said.ensures.said

pub returns-in-Ok-clause-cannot : goal.returns-in-Ok-clause-cannot
returns-in-Ok-clause-cannot g c = just_said _ c.read_said.result c.in-Ok.ensures.unread
