use Rattle.std.proofs.Common.{◌≡◌, ◌≤◌, ◌+◌, ◌-◌, ◌*◌, ◌++◌, ℕ, List, length}
use Rattle.journal.specs.Maps.{Maps}
use Rattle.journal.specs.Costs.{spill_reads, spill_writes}
use Rattle.journal.specs.Store.{StandsFor, Continues, DeviceBegins, DeviceReads, DeviceWentWell, KeepsSaved, by_older, closed_of, pending_count}
use Rattle.terminal.specs.Transfer.{as_blocks, spilled_from}
use Rattle.terminal.proofs.importing.spill_blocks.Given as goal

abbrev pub invariant-loop-block : goal.invariant-loop-block
invariant-loop-block g l = record {
  done : List (List ℕ);
  count : length done ≡ l.block - l.first;
  rest : done ++ as_blocks l.left ≡ as_blocks l.bytes;
  stands : (m : Maps) → StandsFor l.initial.store m → StandsFor l.store (spilled_from m l.first done);
  few : pending_count l.store ≤ pending_count l.initial.store + length done;
  shuts : closed_of l.store ≡ closed_of l.initial.store;
  well : DeviceWentWell l.initial.store l.store;
  stops : KeepsSaved l.initial.store l.store;
  continues : Continues l.initial.store l.store;
  begins : DeviceBegins l.initial.store l.store (spill_writes (by_older l.initial.store) * length done) 0;
  reads : DeviceReads l.initial.store l.store (spill_reads (by_older l.initial.store) * length done);
}
