use Rattle.std.proofs.Common.{◌≡◌, ◌≤◌, List}
use Rattle.cell_machine.specs.Frames.{Level}
use Rattle.interpreter.specs.State.{World}
use Rattle.interpreter.specs.Representation.{Represents}
use Rattle.interpreter.proofs.Holding.{Holding}
use Rattle.interpreter.proofs.forth.Forth.hold_digits.Given as goal

abbrev pub invariant-loop-rest : goal.invariant-loop-rest
invariant-loop-rest g l = record {
  held : (levels : List Level) (x : World) → Represents l.fn.self levels x → Holding l.base l.number l.rest l.fn.self l.self levels x;
  device : l.self.blocks ≡ l.fn.self.blocks;
  budget : l.self.budget ≡ l.fn.self.budget;
  stack : l.self.stack ≡ l.fn.self.stack;
  low : 2 ≤ l.base;
  high : l.base ≤ 72;
}

abbrev pub decreases-loop-rest : goal.decreases-loop-rest
decreases-loop-rest g l = l.rest
