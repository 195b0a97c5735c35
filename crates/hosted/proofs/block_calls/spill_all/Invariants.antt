use Rattle.std.proofs.Common.{◌≡◌, ◌≤◌, ◌+◌, ◌*◌, length, drop, true, false}
use Rattle.std.specs.Prelude.{nat_lt}
use Rattle.std.specs.List.{list_all}
use Rattle.journal.specs.Maps.{Maps}
use Rattle.journal.specs.Costs.{spill_reads, spill_writes}
use Rattle.journal.specs.Store.{Continues, DeviceBegins, DeviceReads, DeviceWentWell, KeepsSaved, StandsFor, blocks_of, by_older, closed_of, pending_count}
use Rattle.hosted.specs.Spilling.{all_spilled}
use Rattle.hosted.proofs.block_calls.spill_all.Given as goal

abbrev pub invariant-loop-block : goal.invariant-loop-block
invariant-loop-block g l =
    let old = l.fn.store in
    record {
      left : (m : Maps) → StandsFor old m → (now : Maps) × StandsFor l.store now
          × (all_spilled now (drop l.block-index l.blocks) l.rest ≡ all_spilled m l.blocks l.bytes)
          × (now.saved ≡ m.saved) × (now.closed ≡ m.closed);
      live : closed_of l.store ≡ false;
      there : list_all (λ b. nat_lt b (blocks_of old)) (drop l.block-index l.blocks) ≡ true;
      whole : length l.rest ≡ 1024 * length (drop l.block-index l.blocks);
      stops : KeepsSaved old l.store;
      continues : Continues old l.store;
      well : DeviceWentWell old l.store;
      pending : pending_count l.store ≤ pending_count old + l.block-index;
      begins : DeviceBegins old l.store (spill_writes (by_older old) * l.block-index) 0;
      reads : DeviceReads old l.store (spill_reads (by_older old) * l.block-index);
    }
