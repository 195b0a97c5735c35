use Rattle.std.proofs.Common.{◌≡◌, ℕ, List, take, refl, ap, sym, arith}
use Rattle.std.proofs.lemmas.Grind.{common_steps}
use Rattle.data_space.specs.Space.{with_cell}
use Rattle.cell_machine.specs.Frames.{Core}
use Rattle.cell_machine.specs.Value.{Outcome}
use Rattle.interpreter.specs.State.{World, with_run, set_cell, to_in_cell}
use Rattle.interpreter.specs.Representation.{core}
use Rattle.interpreter.specs.Looking.{Seen}
use Rattle.interpreter.proofs.Called.{handed_moved, handed_fault}
use Rattle.interpreter.proofs.forth.Forth.take.Goals as goal

-- >IN is then moved behind it
abbrev moved : (List ℕ → Core → World → Outcome World) → Seen → Core → World → Outcome World
moved go seen c x = go seen.bytes (set_cell to_in_cell seen.behind c) x

pub returns-in-Ok-clause-hands : goal.returns-in-Ok-clause-hands
returns-in-Ok-clause-hands g c = λ levels x stands.
    let mid = c.look.new.self in
    let h = c.in-Ok.ensures.hands levels x stands in
    let wrote : c.set_cell.new.self ≡ with_cell mid.space 20 c.in-Ok.look.behind = grind (arith, common_steps, c.set_cell.ensures.after, c.set_cell.ensures.within) in
    handed_moved c.set_cell.new.self moved (λ r go. refl) h
    (λ r go. ap (λ s. go (take c.in-Ok.look.count mid.text) (record (core mid) { space = s }) (with_run r h.world)) (sym wrote))

pub returns-in-Err-clause-hands : goal.returns-in-Err-clause-hands
returns-in-Err-clause-hands g c = λ levels x stands. handed_fault moved (λ r go. refl) (c.in-Err.ensures.hands levels x stands)
