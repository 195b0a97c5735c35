use Rattle.std.proofs.Common.{inl, inr, refl}
use Rattle.std.proofs.lemmas.Result.{IfErr-weaker, IfOk-weaker}
use Rattle.terminal.proofs.scripts.run_led.Goals as goal

pub returns-in-Ok-clause-ends : goal.returns-in-Ok-clause-ends
returns-in-Ok-clause-ends g c =
    let ran = c.run_over-disk in
    IfOk-weaker ran.result.1 _ _ (λ ended session. (ran.result.0, refl, (c.in-Ok.disk, c.in-Ok.ensures.opened, session))) ran.ensures.ends

pub returns-in-Ok-clause-failed : goal.returns-in-Ok-clause-failed
returns-in-Ok-clause-failed g c =
    let ran = c.run_over-disk in
    IfErr-weaker ran.result.1 _ _ (λ e failed. inr (ran.result.0, refl, (c.in-Ok.disk, c.in-Ok.ensures.opened, failed))) ran.ensures.failed

pub returns-in-Err-clause-failed : goal.returns-in-Err-clause-failed
returns-in-Err-clause-failed g c = inl (refl, c.in-Err.ensures.unopened)
