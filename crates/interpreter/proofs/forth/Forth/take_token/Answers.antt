use Rattle.std.proofs.Common.{◌≡◌, ℕ, List, Some, None, take, refl, sym, ap}
use Rattle.cell_machine.specs.Frames.{Core}
use Rattle.cell_machine.specs.Value.{Outcome}
use Rattle.interpreter.specs.State.{World, with_run}
use Rattle.interpreter.specs.Streams.{token_or, known}
use Rattle.interpreter.specs.Representation.{core}
use Rattle.interpreter.proofs.Called.{handed_fault, handed_value, handed_refused}
use Rattle.interpreter.proofs.forth.Forth.take_token.Goals as goal

abbrev looked : (ℕ → Core → World → Outcome World) → List ℕ → Core → World → Outcome World
looked go name c x = token_or (known x name) c x go

pub returns-in-Err-clause-hands : goal.returns-in-Err-clause-hands
returns-in-Err-clause-hands g c = λ levels x stands. handed_fault looked (λ r go. refl) (c.in-Err.ensures.hands levels x stands)

pub returns-in-Some-clause-hands : goal.returns-in-Some-clause-hands
returns-in-Some-clause-hands g c = λ levels x stands.
    let h = c.in-Ok.ensures.hands levels x stands in
    let there : known h.world (take c.in-Ok.count c.take_name.new.self.text) ≡ Some c.in-Some.token = sym (c.in-Some.ensures.found _ h.stands.rests.meant) in
    handed_value looked (λ r go. refl) h (λ r go. ap (λ o. token_or o (core c.take_name.new.self) (with_run r h.world) go) there)

pub returns-in-None-clause-hands : goal.returns-in-None-clause-hands
returns-in-None-clause-hands g c = λ levels x stands.
    let h = c.in-Ok.ensures.hands levels x stands in
    let there : known h.world (take c.in-Ok.count c.take_name.new.self.text) ≡ None = sym (c.in-None.ensures.found _ h.stands.rests.meant) in
    handed_refused looked (λ r go. refl) h (λ r go. ap (λ o. token_or o (core c.take_name.new.self) (with_run r h.world) go) there)
