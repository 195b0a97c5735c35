use Rattle.interpreter.proofs.Consulting.{handed_altered, handed_failed}
use Rattle.interpreter.specs.Compiling.{begun}
use Rattle.interpreter.proofs.forth.Forth.colon.Goals as goal

pub returns-in-Ok-clause-consults : goal.returns-in-Ok-clause-consults
returns-in-Ok-clause-consults g c = λ levels x stands.
    let h = c.in-Ok.ensures.hands levels x stands in
    handed_altered (λ name c x. begun name c x) h c.begin.ensures.spares.device (c.begin.ensures.alters levels h.world h.stands)

pub returns-in-Err-clause-consults : goal.returns-in-Err-clause-consults
returns-in-Err-clause-consults g c = λ levels x stands. handed_failed (λ name c x. begun name c x) (c.in-Err.ensures.hands levels x stands)
