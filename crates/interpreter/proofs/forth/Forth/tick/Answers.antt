use Rattle.interpreter.proofs.Consulting.{handed_altered, handed_failed}
use Rattle.interpreter.specs.State.{pushing}
use Rattle.interpreter.proofs.forth.Forth.tick.Goals as goal

pub returns-in-Ok-clause-consults : goal.returns-in-Ok-clause-consults
returns-in-Ok-clause-consults g c = λ levels x stands.
    let h = c.in-Ok.ensures.hands levels x stands in
    handed_altered (λ w c x. pushing w c x) h c.push.ensures.spares.device (c.push.ensures.alters levels h.world h.stands)

pub returns-in-Err-clause-consults : goal.returns-in-Err-clause-consults
returns-in-Err-clause-consults g c = λ levels x stands. handed_failed (λ w c x. pushing w c x) (c.in-Err.ensures.hands levels x stands)
