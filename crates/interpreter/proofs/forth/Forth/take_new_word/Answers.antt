use Rattle.std.proofs.Common.{◌≡◌, true, false, take, sym, ap, subst, ◌∙◌}
use Rattle.std.specs.Prelude.{is_some}
use Rattle.cell_machine.specs.Fault.{Faults}
use Rattle.cell_machine.specs.Value.{Ends}
use Rattle.lexicon.specs.declared.language.Lexicon.{Lexicon}
use Rattle.lexicon.specs.Stands.{Stands as Means}
use Rattle.interpreter.specs.State.{with_run}
use Rattle.interpreter.specs.Lexicon.{language_of}
use Rattle.interpreter.specs.Representation.{core}
use Rattle.interpreter.proofs.Stepping.{none-no, none-yes}
use Rattle.interpreter.proofs.Added.{new_name, new_name-yes, new_name-no}
use Rattle.interpreter.proofs.Called.{handed_fault, handed_value, handed_refused, handed_none}
use Rattle.interpreter.proofs.forth.Forth.take_new_word.Goals as goal

pub returns-then-is_open-clause-hands : goal.returns-then-is_open-clause-hands
returns-then-is_open-clause-hands g c = λ levels x stands.
    let some : is_some x.definition ≡ true = sym (c.is_open.ensures _ stands.rests.meant) ∙ c.if-is_open.true in
    handed_none g.D.SectorDevice g.met.D.SectorDevice.only_now c.args.self.now stands (λ r go. none-no (core c.args.self.now) (with_run r x) _ some)

pub returns-in-Err-clause-hands : goal.returns-in-Err-clause-hands
returns-in-Err-clause-hands g c = λ levels x stands.
    let none : is_some x.definition ≡ false = sym (c.is_open.ensures _ stands.rests.meant) ∙ c.if-is_open.false in
    handed_fault new_name (λ r go. none-yes (core c.args.self.now) (with_run r x) _ none) (c.in-Err.ensures.hands levels x stands)

pub returns-in-Ok-check_new-clause-hands : goal.returns-in-Ok-check_new-clause-hands
returns-in-Ok-check_new-clause-hands g c = λ levels x stands.
    let none : is_some x.definition ≡ false = sym (c.is_open.ensures _ stands.rests.meant) ∙ c.if-is_open.false in
    let h = c.in-Ok.ensures.hands levels x stands in
    handed_value new_name (λ r go. none-yes (core c.args.self.now) (with_run r x) _ none) h
    (λ r go. new_name-yes (take c.in-Ok.count c.take_word.new.self.text) (core c.take_word.new.self) (with_run r h.world) go (c.in-Ok-check_new.ensures.fits.fits (language_of h.world) h.stands.rests.meant))

pub returns-in-Err-check_new-clause-hands : goal.returns-in-Err-check_new-clause-hands
returns-in-Err-check_new-clause-hands g c = λ levels x stands.
    let none : is_some x.definition ≡ false = sym (c.is_open.ensures _ stands.rests.meant) ∙ c.if-is_open.false in
    let h = c.in-Ok.ensures.hands levels x stands in
    let still : is_some h.world.definition ≡ false = sym (c.is_open.ensures (language_of h.world) (subst (λ (l : Lexicon). Means l (language_of h.world)) c.in-Ok.ensures.lexicon h.stands.rests.meant)) ∙ c.if-is_open.false in
    handed_refused new_name (λ r go. none-yes (core c.args.self.now) (with_run r x) _ none) h
    (λ r go. new_name-no (take c.in-Ok.count c.take_word.new.self.text) (core c.take_word.new.self) (with_run r h.world) go _ still (c.in-Err-check_new.ensures.refused.refused (language_of h.world) h.stands.rests.meant)
    ∙ ap (λ f. Ends (Faults f) (core c.take_word.new.self) (with_run r h.world)) (sym c.lexicon_fault.ensures.fault))
