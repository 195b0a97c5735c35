use Rattle.std.proofs.Common.{◌≡◌, refl, ap, sym, arith}
use Rattle.std.proofs.lemmas.Grind.{common_steps}
use Rattle.data_space.specs.Space.{with_cell}
use Rattle.lexicon.specs.Language.{ending}
use Rattle.interpreter.specs.State.{set_cell, state_cell}
use Rattle.interpreter.specs.Representation.{core}
use Rattle.interpreter.proofs.Stepping.{step_done, step_refused}
use Rattle.interpreter.proofs.forth.Forth.semicolon.Goals as goal

pub returns-in-Ok-clause-alters : goal.returns-in-Ok-clause-alters
returns-in-Ok-clause-alters g c = λ levels x stands.
    let old = core c.args.self.now in
    let wrote : c.set_cell.new.self ≡ with_cell old.space 18 0 = grind (arith, common_steps, c.set_cell.ensures.after, c.set_cell.ensures.within) in
    step_done c.args.self.now _ c.args.self.now.lexicon ending (λ c. set_cell state_cell 0 c) old stands c.in-Ok.ensures.ended
    (λ r. refl) (ap (λ s. record old { space = s }) (sym wrote)) (omega arith)

pub returns-in-Err-clause-alters : goal.returns-in-Err-clause-alters
returns-in-Err-clause-alters g c = λ levels x stands.
    step_refused c.args.self.now _ c.args.self.now.lexicon ending (λ c. set_cell state_cell 0 c) (core c.args.self.now) stands c.in-Err.ensures.refused c.compile_fault.ensures.fault
    (λ r. refl) refl (omega arith)
