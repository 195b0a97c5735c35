use Rattle.std.proofs.Common.{◌<◌, ◌≡◌, ℕ, List, Ok}
use Rattle.cell_machine.specs.Frames.{Level}
use Rattle.interpreter.specs.declared.interpreting.Round.TheVariants.{GoesOn}
use Rattle.interpreter.specs.Law.{left}
use Rattle.interpreter.specs.State.{World, with_run}
use Rattle.interpreter.specs.Representation.{core, device, Represents}
use Rattle.interpreter.specs.RoundContract.{RanRound, LastsRound, measure}
use Rattle.interpreter.proofs.forth.Forth.interpret.Given as goal

abbrev pub invariant-rounds : goal.invariant-rounds
invariant-rounds g l = record {
  round : (n : ℕ) (levels : List Level) (x : World) → l.fn.self.steps < n → Represents l.fn.self levels x
      → RanRound g.T.Terminal n (λ r. left n levels (core l.fn.self) (with_run r x)) (Ok GoesOn) l.fn.self l.self l.fn.terminal l.terminal x;
  lasts : LastsRound g.D.SectorDevice g.T.Terminal (Ok GoesOn) (device l.fn.self) (device l.self) l.fn.terminal l.terminal;
  told : g.D.SectorDevice.failures (device l.self) ≡ g.D.SectorDevice.failures (device l.fn.self);
  budget : l.self.budget ≡ l.fn.self.budget;
}

abbrev pub decreases-rounds : goal.decreases-rounds
decreases-rounds g l = measure l.self
