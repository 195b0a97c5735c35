use Rattle.std.proofs.Common.{refl, arith}
use Rattle.cell_machine.specs.Value.{Did}
use Rattle.interpreter.specs.State.{with_run}
use Rattle.interpreter.specs.Representation.{core}
use Rattle.interpreter.proofs.Altering.{refused}
use Rattle.interpreter.proofs.Short.{popping-one, popping-none}
use Rattle.interpreter.proofs.Consulting.{handed_altered, handed_failed, consulted_as, altered_consulted}
use Rattle.dictionary.specs.Words.{Constant}
use Rattle.interpreter.specs.Naming.{adding}
use Rattle.interpreter.proofs.forth.Forth.constant.Goals as goal

pub returns-in_default-clause-consults : goal.returns-in_default-clause-consults
returns-in_default-clause-consults g c = λ levels x stands.
    altered_consulted g.D.SectorDevice g.met.D.SectorDevice.only_now c.args.self.now _ stands refl
    (refused _ stands (core c.args.self.now) refl (λ r. popping-none (core c.args.self.now) (with_run r x) _ c.in_default.ensures.empty) (omega arith))

pub returns-in-Ok-take_new_word-clause-consults : goal.returns-in-Ok-take_new_word-clause-consults
returns-in-Ok-take_new_word-clause-consults g c = λ levels x stands.
    let old = c.args.self.now in
    let h = c.in-Ok-take_new_word.ensures.hands levels x stands in
    consulted_as _ old (λ r. popping-one (core old) (with_run r x) _ _ _ c.in-Ok.ensures.ok) (omega arith) refl
    (handed_altered (λ name c' x. Did c' (adding name (Constant c.in-Ok.cell) x)) h c.add_constant.ensures.spares.device (c.add_constant.ensures.alters levels h.world h.stands))

pub returns-in-Err-clause-consults : goal.returns-in-Err-clause-consults
returns-in-Err-clause-consults g c = λ levels x stands.
    let old = c.args.self.now in
    consulted_as _ old (λ r. popping-one (core old) (with_run r x) _ _ _ c.in-Ok.ensures.ok) (omega arith) refl
    (handed_failed (λ name c' x. Did c' (adding name (Constant c.in-Ok.cell) x)) (c.in-Err.ensures.hands levels x stands))
