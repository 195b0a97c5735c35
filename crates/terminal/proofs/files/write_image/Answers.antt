use Rattle.std.proofs.Common.{inl, inr, refl}
use Rattle.std.proofs.lemmas.Result.{IfErr-weaker, on_ok_weaker}
use Rattle.terminal.proofs.files.write_image.Goals as goal

pub returns-in-Ok-clause-done : goal.returns-in-Ok-clause-done
returns-in-Ok-clause-done g c =
    let did = c.write_over-disk in on_ok_weaker did.result.1 (λ done. (did.result.0, refl, (c.in-Ok.disk, c.in-Ok.ensures.opened, done))) did.ensures.written

pub returns-in-Ok-clause-failed : goal.returns-in-Ok-clause-failed
returns-in-Ok-clause-failed g c =
    let did = c.write_over-disk in
    IfErr-weaker did.result.1 _ _ (λ e failed. inr (did.result.0, refl, (c.in-Ok.disk, c.in-Ok.ensures.opened, failed))) did.ensures.failed

pub returns-in-Err-clause-failed : goal.returns-in-Err-clause-failed
returns-in-Err-clause-failed g c = inl (refl, c.in-Err.ensures.unopened)
