use Rattle.std.proofs.Common.{inl, refl}
use Rattle.terminal.proofs.Differences.{diff_done, diff_failed}
use Rattle.terminal.proofs.files.compare_images.Goals as goal

pub returns-in-Ok-clause-done : goal.returns-in-Ok-clause-done
returns-in-Ok-clause-done g c =
    diff_done _ c.compare_opened.result.1 c.compare_opened.result.0 c.in-Ok.before _ _ _ _ c.in-Ok.ensures.looked c.compare_opened.ensures.done

pub returns-in-Ok-clause-failed : goal.returns-in-Ok-clause-failed
returns-in-Ok-clause-failed g c =
    diff_failed _ c.compare_opened.result.1 c.compare_opened.result.0 c.in-Ok.before _ _ c.in-Ok.ensures.looked c.compare_opened.ensures.failed

pub returns-in-Err-clause-failed : goal.returns-in-Err-clause-failed
returns-in-Err-clause-failed g c = inl (inl (refl, c.in-Err.ensures.unopened))
