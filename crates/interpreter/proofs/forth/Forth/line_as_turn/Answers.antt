use Rattle.std.proofs.Common.{refl}
use Rattle.interpreter.specs.State.{Forth}
use Rattle.interpreter.specs.Representation.{core}
use Rattle.interpreter.proofs.Promised.{promised}
use Rattle.interpreter.proofs.forth.Forth.line_as_turn.Goals as goal

pub returns-clause-runs : goal.returns-clause-runs
returns-clause-runs g c = λ opening system.
    promised g.D.SectorDevice g.T.Terminal opening c.args.text.now c.run_line.result c.args.self.now c.run_line.new.self c.args.terminal.now c.run_line.new.terminal system c.run_line.ensures.budget c.run_line.ensures.lasts.model
    (c.run_line.ensures.lined opening system.represents)

pub returns-clause-sound : goal.returns-clause-sound
returns-clause-sound g c =
    let s = c.requires.sound in
    let opening : Forth = record { budget = c.args.self.now.budget.steps; undoes = c.args.self.now.budget.undoes; core = core c.args.self.now; world = s.0 } in
    let h = c.run_line.ensures.lined opening (record { budget = refl; undoes = refl; same_core = record { stack = refl; space = refl }; rests = s.1 }) in
    (h.world, h.rests)
