use Rattle.std.proofs.Common.{◌∙◌, inl, inr, refl}
use Rattle.std.proofs.lemmas.Result.{IfErr-weaker, on_ok_weaker}
use Rattle.terminal.proofs.Begun.{not_finished}
use Rattle.terminal.proofs.files.new_image.Goals as goal

pub returns-in-Ok-clause-done : goal.returns-in-Ok-clause-done
returns-in-Ok-clause-done g c =
    let did = c.make_by-disk in on_ok_weaker did.result.1 (λ done. (did.result.0, refl, (c.in-Ok.disk, (rw c.sectors_by.ensures at c.in-Ok.ensures.made), done))) did.ensures.made

pub returns-in-Ok-clause-failed : goal.returns-in-Ok-clause-failed
returns-in-Ok-clause-failed g c =
    let did = c.make_by-disk in
    IfErr-weaker did.result.1 _ _ (λ e failed. inr (did.result.0, refl, (c.in-Ok.disk, (rw c.sectors_by.ensures at c.in-Ok.ensures.made), failed))) did.ensures.failed

pub returns-in-Ok-clause-well : goal.returns-in-Ok-clause-well
returns-in-Ok-clause-well g c = on_ok_weaker c.make_by-disk.result.1 (λ well. well ∙ c.in-Ok.ensures.well) c.make_by-disk.ensures.well

pub returns-in-Err-clause-failed : goal.returns-in-Err-clause-failed
returns-in-Err-clause-failed g c =
    let e = c.in-Err.ensures in inl (not_finished c.in-Err.unfinished c.begun.result c.in-Err.failure _ c.begun.ensures e.unmade e.begun e.refused)
