use Rattle.std.proofs.Common.{◌-◌, ◌*◌}
use Rattle.std.specs.Io.KnownBytes.{Appends}
use Rattle.journal.specs.Maps.{Maps}
use Rattle.journal.specs.Store.{StandsFor, DeviceWentWell}
use Rattle.terminal.specs.Transfer.{ReadsStore, exports}
use Rattle.terminal.proofs.exporting.print_blocks.Given as goal

abbrev pub invariant-loop-block : goal.invariant-loop-block
invariant-loop-block g l = record {
  printed : (m : Maps) → StandsFor l.initial.store m
      → Appends (g.W.Write.contents l.initial.output) (g.W.Write.contents l.output) (exports l.form m l.first (l.block - l.first));
  well : DeviceWentWell l.initial.store l.store;
  store : ReadsStore l.initial.store l.store (2 * (l.block - l.first));
}
