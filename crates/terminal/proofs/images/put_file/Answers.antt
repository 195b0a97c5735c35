use Rattle.std.proofs.lemmas.Result.{on_ok_weaker}
use Rattle.terminal.proofs.TextLemmas.{leaves_named, puts_named}
use Rattle.terminal.proofs.Ended.{just_said}
use Rattle.terminal.proofs.images.put_file.Goals as goal

pub returns-in-Ok-clause-some : goal.returns-in-Ok-clause-some
returns-in-Ok-clause-some g c =
    on_ok_weaker c.put_text.result
    (puts_named g.X.Text.Read.remaining _ c.in-Ok.reader c.in-Ok.ensures.named c.args.store.now c.put_text.new.store c.args.block)
    c.put_text.ensures.some

pub returns-in-Ok-clause-kept : goal.returns-in-Ok-clause-kept
returns-in-Ok-clause-kept g c = λ below.
    leaves_named g.X.Text.Read.remaining _ c.in-Ok.reader c.in-Ok.ensures.named c.args.store.now c.put_text.new.store c.args.block
    c.put_text.ensures.kept

pub returns-in-Ok-clause-cannot : goal.returns-in-Ok-clause-cannot
returns-in-Ok-clause-cannot g c = just_said _ c.put_text.result c.in-Ok.ensures.unread
