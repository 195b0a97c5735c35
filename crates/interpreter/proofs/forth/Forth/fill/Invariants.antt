use Rattle.std.proofs.Common.{◌+◌, ◌≡◌, ◌≤◌, Ok}
use Rattle.interpreter.specs.Representation.{device}
use Rattle.interpreter.specs.ServiceContract.{Lasts}
use Rattle.interpreter.proofs.Expecting.{Begun}
use Rattle.interpreter.proofs.forth.Forth.fill.Given as goal

abbrev pub invariant-bytes : goal.invariant-bytes
invariant-bytes g l = record {
  begun : Begun g.T.Terminal l.a l.u l.room.count l.room.left l.some l.fn.self l.self l.fn.terminal l.terminal;
  room : l.room.count + l.room.left ≤ l.u;
  lasts : Lasts g.D.SectorDevice g.T.Terminal (Ok tt) (device l.fn.self) (device l.self) l.fn.terminal l.terminal;
  told : g.D.SectorDevice.failures (device l.self) ≡ g.D.SectorDevice.failures (device l.fn.self);
}

abbrev pub decreases-bytes : goal.decreases-bytes
decreases-bytes g l = g.T.Terminal.may_give l.terminal
