use Rattle.std.proofs.lemmas.Result.{IfErr-weaker, on_ok_weaker}
use Rattle.terminal.proofs.TextLemmas.{lines_named, told_unread}
use Rattle.terminal.proofs.scripts.add_file.Goals as goal

pub returns-in-Ok-clause-added : goal.returns-in-Ok-clause-added
returns-in-Ok-clause-added g c =
    on_ok_weaker c.add_text.result
    (lines_named g.X.Text.Read.remaining _ c.in-Ok.reader c.in-Ok.ensures.named c.args.text.now.items c.add_text.new.text.items) c.add_text.ensures.added

pub returns-in-Ok-clause-only : goal.returns-in-Ok-clause-only
returns-in-Ok-clause-only g c =
    IfErr-weaker c.add_text.result _ _ (λ e only. told_unread e only (λ is. c.in-Ok.ensures.unread)) c.add_text.ensures.only

pub returns-in-Err-clause-only : goal.returns-in-Err-clause-only
returns-in-Err-clause-only g c = told_unread c.in-Err.failure c.in-Err.ensures.only c.in-Err.ensures.refused
