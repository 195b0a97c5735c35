use Rattle.std.proofs.Common.{inl, inr, refl}
use Rattle.std.proofs.lemmas.Result.{IfErr-weaker, on_ok_weaker}
use Rattle.terminal.proofs.files.show_image.Goals as goal

pub returns-in-Ok-clause-done : goal.returns-in-Ok-clause-done
returns-in-Ok-clause-done g c =
    let did = c.show-outcome in on_ok_weaker did.result (λ done. (_, refl, (c.in-Ok.disk, c.in-Ok.ensures.looked, done))) did.ensures.shown

pub returns-in-Ok-clause-failed : goal.returns-in-Ok-clause-failed
returns-in-Ok-clause-failed g c =
    let did = c.show-outcome in
    IfErr-weaker did.result _ _ (λ e failed. inr (_, refl, (c.in-Ok.disk, c.in-Ok.ensures.looked, failed))) did.ensures.failed

pub returns-in-Err-clause-failed : goal.returns-in-Err-clause-failed
returns-in-Err-clause-failed g c = inl (refl, c.in-Err.ensures.unopened)
