use Rattle.std.proofs.Common.{inl, inr, refl}
use Rattle.std.proofs.lemmas.Result.{on_ok_weaker}
use Rattle.terminal.proofs.Differences.{both_failed}
use Rattle.terminal.proofs.files.compare_opened.Goals as goal

pub returns-in-Ok-clause-done : goal.returns-in-Ok-clause-done
returns-in-Ok-clause-done g c =
    let done = c.compare_over-outcome in
    on_ok_weaker done.result (λ compares. (done.new.old, done.new.new, refl, c.args.before, refl, c.in-Ok.after, c.in-Ok.ensures.looked, compares))
    done.ensures.compares

pub returns-in-Ok-clause-failed : goal.returns-in-Ok-clause-failed
returns-in-Ok-clause-failed g c =
    let done = c.compare_over-outcome in
    both_failed _ _ done.result _ c.args.before done.new.old c.in-Ok.after done.new.new _ _ refl c.in-Ok.ensures.looked
    refl done.ensures.old_kept done.ensures.new_kept done.ensures.device done.ensures.refused done.ensures.exact

pub returns-in-Err-clause-failed : goal.returns-in-Err-clause-failed
returns-in-Err-clause-failed g c = inl (inr (c.args.before, refl, (c.args.before, refl, (c.in-Err.ensures.unopened, refl))))
