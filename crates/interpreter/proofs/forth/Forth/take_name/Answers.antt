use Rattle.std.proofs.Common.{◌≡◌, ◌<◌, ℕ, List, true, false, length, take, refl, arith}
use Rattle.std.specs.Prelude.{nat_lt}
use Rattle.std.proofs.lemmas.Bool.{le-ltb, lt-ltb}
use Rattle.cell_machine.specs.Fault.{Name}
use Rattle.cell_machine.specs.Frames.{Core}
use Rattle.cell_machine.specs.Value.{Outcome}
use Rattle.interpreter.specs.State.{World, with_run, needing}
use Rattle.interpreter.specs.Representation.{core}
use Rattle.interpreter.proofs.Short.{needing-no, needing-yes}
use Rattle.interpreter.proofs.Called.{handed_fault, handed_value, handed_refused}
use Rattle.interpreter.proofs.forth.Forth.take_name.Goals as goal

abbrev named : (List ℕ → Core → World → Outcome World) → List ℕ → Core → World → Outcome World
named go name c x = needing (nat_lt 0 (length name)) Name c x (λ c. go name c x)

pub returns-in-Err-clause-hands : goal.returns-in-Err-clause-hands
returns-in-Err-clause-hands g c = λ levels x stands. handed_fault named (λ r go. refl) (c.in-Err.ensures.hands levels x stands)

pub returns-then-count-eq0-clause-hands : goal.returns-then-count-eq0-clause-hands
returns-then-count-eq0-clause-hands g c = λ levels x stands.
    let h = c.in-Ok.ensures.hands levels x stands in
    let none : nat_lt 0 (length (take c.in-Ok.count c.take_word.new.self.text)) ≡ false = le-ltb _ _ (omega (arith, c.in-Ok.ensures.whole, c.if-count-eq0.true)) in
    handed_refused named (λ r go. refl) h (λ r go. needing-no _ Name (core c.take_word.new.self) (with_run r h.world) _ none)

pub returns-else-count-eq0-clause-hands : goal.returns-else-count-eq0-clause-hands
returns-else-count-eq0-clause-hands g c = λ levels x stands.
    let h = c.in-Ok.ensures.hands levels x stands in
    let more : 0 < c.in-Ok.count = omega (arith, c.if-count-eq0.false) in
    let some : nat_lt 0 (length (take c.in-Ok.count c.take_word.new.self.text)) ≡ true = lt-ltb _ _ (omega (arith, c.in-Ok.ensures.whole, more)) in
    handed_value named (λ r go. refl) h (λ r go. needing-yes _ Name (core c.take_word.new.self) (with_run r h.world) _ some)
