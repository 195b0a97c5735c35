use Rattle.cell_machine.specs.Value.{Did}
use Rattle.interpreter.proofs.Consulting.{handed_altered, handed_failed}
use Rattle.dictionary.specs.Words.{Vocabulary}
use Rattle.interpreter.specs.Naming.{adding}
use Rattle.interpreter.proofs.forth.Forth.vocabulary.Goals as goal

pub returns-in-Ok-clause-consults : goal.returns-in-Ok-clause-consults
returns-in-Ok-clause-consults g c = λ levels x stands.
    let h = c.in-Ok.ensures.hands levels x stands in
    handed_altered (λ name c x. Did c (adding name Vocabulary x)) h c.add_vocabulary.ensures.spares.device (c.add_vocabulary.ensures.alters levels h.world h.stands)

pub returns-in-Err-clause-consults : goal.returns-in-Err-clause-consults
returns-in-Err-clause-consults g c = λ levels x stands. handed_failed (λ name c x. Did c (adding name Vocabulary x)) (c.in-Err.ensures.hands levels x stands)
