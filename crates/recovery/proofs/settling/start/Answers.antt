use Rattle.std.proofs.Common.{sym, ◌∙◌}
use Rattle.std.proofs.lemmas.Result.{on_ok_weaker}
use Rattle.recovery.proofs.settling.start.Goals as goal

pub returns-clause-label : goal.returns-clause-label
returns-clause-label g c = λ keeps.
    on_ok_weaker c.check_label.result (λ good. sym (c.in_ok-settle.ensures.label keeps) ∙ good) c.check_label.ensures.good
