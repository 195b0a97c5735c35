use Rattle.std.proofs.Common.{◌≡◌, ◌*◌, ℕ, false, take}
use Rattle.std.specs.Prelude.{◌||◌}
use Rattle.journal.specs.Maps.{Maps}
use Rattle.journal.specs.Costs.{spill_reads, spill_writes}
use Rattle.journal.specs.Store.{by_older, StandsFor, Continues, DeviceWentWell, KeepsSaved, DeviceBegins, DeviceReads, is_pending, device_of, closed_of}
use Rattle.block_words.specs.Uses.{is_among}
use Rattle.block_words.specs.Words.{all_spilled}
use Rattle.block_words.proofs.saving.spill_updated.Given as goal

abbrev pub invariant-loop-updated : goal.invariant-loop-updated
invariant-loop-updated g l = record {
  stands : (m : Maps) → StandsFor l.fn.store m → StandsFor l.store (all_spilled (take l.updated-index l.updated-items) l.space m);
  opened : closed_of l.store ≡ false;
  stops : KeepsSaved l.fn.store l.store;
  continues : Continues l.fn.store l.store;
  well : DeviceWentWell l.fn.store l.store;
  pending : (u : ℕ) → is_pending l.store u ≡ (is_among (take l.updated-index l.updated-items) u || is_pending l.fn.store u);
  begins : DeviceBegins l.fn.store l.store (spill_writes (by_older l.fn.store) * l.updated-index) 0;
  reads : DeviceReads l.fn.store l.store (spill_reads (by_older l.fn.store) * l.updated-index);
  unmoved : l.updated-index ≡ 0 → device_of l.store ≡ (device_of l.fn.store);
}
