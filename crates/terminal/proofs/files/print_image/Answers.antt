use Rattle.std.proofs.Common.{⊎_elim, inl, inr, refl}
use Rattle.std.proofs.lemmas.Result.{IfErr-weaker, on_ok_weaker}
use Rattle.terminal.proofs.files.print_image.Goals as goal

pub returns-in-Ok-clause-done : goal.returns-in-Ok-clause-done
returns-in-Ok-clause-done g c =
    let did = c.print_over-disk in on_ok_weaker did.result.1 (λ done. inl (did.result.0, refl, (c.in-Ok.disk, c.in-Ok.ensures.opened, done))) did.ensures.printed

pub returns-in-Ok-clause-failed : goal.returns-in-Ok-clause-failed
returns-in-Ok-clause-failed g c =
    let did = c.print_over-disk in
    IfErr-weaker did.result.1 _ _ (λ e failed. inl (inr (did.result.0, refl, (c.in-Ok.disk, c.in-Ok.ensures.opened, failed)))) did.ensures.failed

pub returns-in-Err-clause-done : goal.returns-in-Err-clause-done
returns-in-Err-clause-done g c = on_ok_weaker c.show_image.result.1 (λ done. inr done) c.show_image.ensures.done

pub returns-in-Err-clause-failed : goal.returns-in-Err-clause-failed
returns-in-Err-clause-failed g c =
    IfErr-weaker c.show_image.result.1 _ _ (λ e failed. ⊎_elim (λ none. inl (inl none)) (λ read. inr read) failed) c.show_image.ensures.failed
