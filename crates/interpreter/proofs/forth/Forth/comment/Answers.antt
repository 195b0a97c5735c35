use Rattle.std.proofs.Common.{refl, arith}
use Rattle.cell_machine.specs.Value.{Did}
use Rattle.interpreter.proofs.Altering.{went}
use Rattle.interpreter.proofs.Consulting.{handed_altered, handed_failed}
use Rattle.interpreter.proofs.forth.Forth.comment.Goals as goal

pub returns-in-Ok-clause-consults : goal.returns-in-Ok-clause-consults
returns-in-Ok-clause-consults g c = λ levels x stands.
    let h = c.in-Ok.ensures.hands levels x stands in
    handed_altered (λ s c x. Did c x) h refl (went _ h.world h.stands (λ r. refl) refl (omega arith))

pub returns-in-Err-clause-consults : goal.returns-in-Err-clause-consults
returns-in-Err-clause-consults g c = λ levels x stands. handed_failed (λ s c x. Did c x) (c.in-Err.ensures.hands levels x stands)
