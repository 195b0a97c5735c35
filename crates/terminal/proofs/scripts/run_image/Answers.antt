use Rattle.std.proofs.Common.{◌≡◌, ◌∙◌, Bool, true, false, not, sym}
use Rattle.std.specs.Prelude.{◌&&◌, ◌||◌}
use Rattle.terminal.proofs.ScriptEnding.{told_ended, told_failed}
use Rattle.terminal.proofs.scripts.run_image.Goals as goal

pub returns-then-is_told-clause-ended : goal.returns-then-is_told-clause-ended
returns-then-is_told-clause-ended g c =
    let ran = c.run_traced-left in
    let told = c.conclude-outcome in
    told_ended _ _ _ c.args.steps c.args.script.now _ _ _ _ _ _ _ ran.result.0 ran.result.1 told.result.0 told.ensures.ended ran.ensures.ends

pub returns-then-is_told-clause-failed : goal.returns-then-is_told-clause-failed
returns-then-is_told-clause-failed g c =
    let ran = c.run_traced-left in
    let told = c.conclude-outcome in
    told_failed _ _ _ c.args.steps c.args.script.now _ _ _ _ _ _ _ ran.result.0 _ ran.result.1 told.result.0 told.ensures.ended ran.ensures.ends ran.ensures.failed

pub returns-else-is_told-clause-ended : goal.returns-else-is_told-clause-ended
returns-else-is_told-clause-ended g c =
    let ran = c.run_traced-left-else-is_told in
    let told = c.conclude-outcome-else-is_told in
    told_ended _ _ _ c.args.steps c.args.script.now _ _ _ _ _ _ _ ran.result.0 ran.result.1 told.result.0 told.ensures.ended ran.ensures.ends

pub returns-else-is_told-clause-failed : goal.returns-else-is_told-clause-failed
returns-else-is_told-clause-failed g c =
    let ran = c.run_traced-left-else-is_told in
    let told = c.conclude-outcome-else-is_told in
    told_failed _ _ _ c.args.steps c.args.script.now _ _ _ _ _ _ _ ran.result.0 _ ran.result.1 told.result.0 told.ensures.ended ran.ensures.ends ran.ensures.failed

told_or_plain : (traced strict undoes load files : Bool) → (traced || undoes) ≡ true → (not traced && not strict && not undoes && load && files) ≡ true → ⊥
told_or_plain true strict undoes load files told plain = let no : false ≡ true = plain in cc
told_or_plain false true undoes load files told plain = let no : false ≡ true = plain in cc
told_or_plain false false true load files told plain = let no : false ≡ true = plain in cc
told_or_plain false false false load files told plain = let no : false ≡ true = told in cc

pub returns-then-is_told-clause-silent : goal.returns-then-is_told-clause-silent
returns-then-is_told-clause-silent g c = λ plain.
    let script = c.args.script.now in
    absurd (told_or_plain script.is_traced script.is_strict script.undoes _ _ (sym c.is_told.ensures ∙ c.if-is_told.true) plain)
