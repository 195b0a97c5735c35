use Rattle.std.proofs.Common.{◌≡◌, ◌∙◌, true, false, refl, sym, arith}
use Rattle.std.specs.Prelude.{is_some}
use Rattle.interpreter.specs.State.{with_run}
use Rattle.interpreter.specs.Representation.{core}
use Rattle.interpreter.proofs.Altering.{refused}
use Rattle.interpreter.proofs.Consulting.{handed_altered, handed_failed, consulted_as, altered_consulted}
use Rattle.interpreter.proofs.Stepping.{open-no, open-yes}
use Rattle.compiler.specs.Definition.{add_literal}
use Rattle.interpreter.specs.Compiling.{changing}
use Rattle.interpreter.proofs.forth.Forth.compile_tick.Goals as goal

pub returns-then-not-is_open-clause-consults : goal.returns-then-not-is_open-clause-consults
returns-then-not-is_open-clause-consults g c = λ levels x stands.
    let none : is_some x.definition ≡ false = sym (c.is_open.ensures _ stands.rests.meant) ∙ c.if-not-is_open.true in
    altered_consulted g.D.SectorDevice g.met.D.SectorDevice.only_now c.args.self.now _ stands refl
    (refused _ stands (core c.args.self.now) refl (λ r. open-no (core c.args.self.now) (with_run r x) _ none) (omega arith))

pub returns-in-Ok-clause-consults : goal.returns-in-Ok-clause-consults
returns-in-Ok-clause-consults g c = λ levels x stands.
    let some : is_some x.definition ≡ true = sym (c.is_open.ensures _ stands.rests.meant) ∙ c.if-not-is_open.false in
    let h = c.in-Ok.ensures.hands levels x stands in
    consulted_as _ c.args.self.now (λ r. open-yes (core c.args.self.now) (with_run r x) _ some) (omega arith) refl
    (handed_altered (λ w c x. changing (λ used. add_literal used w) c x) h c.add_literal.ensures.spares.device (c.add_literal.ensures.alters levels h.world h.stands))

pub returns-in-Err-clause-consults : goal.returns-in-Err-clause-consults
returns-in-Err-clause-consults g c = λ levels x stands.
    let some : is_some x.definition ≡ true = sym (c.is_open.ensures _ stands.rests.meant) ∙ c.if-not-is_open.false in
    consulted_as _ c.args.self.now (λ r. open-yes (core c.args.self.now) (with_run r x) _ some) (omega arith) refl
    (handed_failed (λ w c x. changing (λ used. add_literal used w) c x) (c.in-Err.ensures.hands levels x stands))
