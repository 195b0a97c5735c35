use Rattle.std.proofs.Common.{◌⊎◌, inl, subst, arith}
use Rattle.terminal.proofs.Pending.{spilled_one}
use Rattle.sector_disk.proofs.Moments.{leaves_then}
use Rattle.journal.specs.Maps.{latest, spilled}
use Rattle.journal.specs.BySize.{Means}
use Rattle.journal.specs.Store.{by_older, device_of, pending_count}
use Rattle.block_words.proofs.Saves.{all_begins, all_reads}
use Rattle.journal.proofs.Costs.{one_begins, one_reads, reads_few, spills_few}
use Rattle.terminal.proofs.images.put_block.Goals as goal

pub returns-in-Ok-clause-ok : goal.returns-in-Ok-clause-ok
returns-in-Ok-clause-ok g c = λ m stands. c.commit.ensures.ok (spilled m c.args.block c.args.bytes.now) (c.in-Ok.ensures.ok m stands)

pub returns-in-Ok-clause-after : goal.returns-in-Ok-clause-after
returns-in-Ok-clause-after g c = λ m stands. c.commit.ensures.after (spilled m c.args.block c.args.bytes.now) (c.in-Ok.ensures.ok m stands)

pub returns-in-Ok-clause-stops : goal.returns-in-Ok-clause-stops
returns-in-Ok-clause-stops g c = λ m stands live.
    let next = latest (spilled m c.args.block c.args.bytes.now) in
    leaves_then g.D.SectorDevice.time g.D.SectorDevice.left_since _ _ _ _ _ _ c.in-Ok.ensures.continues.time c.commit.ensures.continues.time
    (c.in-Ok.ensures.stops m stands live)
    (c.commit.ensures.stops (spilled m c.args.block c.args.bytes.now) (c.in-Ok.ensures.ok m stands) live)
    (λ image old. inl old) (λ image either. subst (λ n. Means n m.saved image ⊎ Means n next image) c.in-Ok.ensures.continues.sectors either)

pub returns-in-Ok-clause-begins : goal.returns-in-Ok-clause-begins
returns-in-Ok-clause-begins g c =
    let D = g.D.SectorDevice in
    let old = c.args.store.now in
    let mid = c.spill.new.self in
    let more = spilled_one old mid c.args.block c.in-Ok.ensures.continues c.in-Ok.ensures.pending in
    let all = all_begins D old mid c.commit.new.self c.in-Ok.ensures.continues 1 more
    (one_begins D (device_of old) (device_of mid) (by_older old) c.in-Ok.ensures.begins) c.commit.ensures.begins in
    record { few_writes = omega (arith, all.few_writes); few_syncs = all.few_syncs }

pub returns-in-Ok-clause-reads : goal.returns-in-Ok-clause-reads
returns-in-Ok-clause-reads g c =
    let D = g.D.SectorDevice in
    let old = c.args.store.now in
    let mid = c.spill.new.self in
    let more = spilled_one old mid c.args.block c.in-Ok.ensures.continues c.in-Ok.ensures.pending in
    omega (
      arith,
      all_reads D old mid c.commit.new.self c.in-Ok.ensures.continues 1 more
          (one_reads D (device_of old) (device_of mid) (by_older old) c.in-Ok.ensures.reads) c.commit.ensures.reads,
    )

-- A spill alone is fewer calls than a save.
pub returns-in-Err-clause-begins : goal.returns-in-Err-clause-begins
returns-in-Err-clause-begins g c =
    let D = g.D.SectorDevice in
    let old = c.args.store.now in
    let new = c.spill.new.self in
    let few = spills_few D (device_of old) (device_of new) (by_older old) 1 (pending_count old)
    (one_begins D (device_of old) (device_of new) (by_older old) c.spill.ensures.begins) in
    record { few_writes = omega (arith, few.few_writes); few_syncs = few.few_syncs }

pub returns-in-Err-clause-reads : goal.returns-in-Err-clause-reads
returns-in-Err-clause-reads g c =
    let D = g.D.SectorDevice in
    let old = c.args.store.now in
    let new = c.spill.new.self in
    omega (
      arith,
      reads_few D (device_of old) (device_of new) (by_older old) 1 (pending_count old)
          (one_reads D (device_of old) (device_of new) (by_older old) c.spill.ensures.reads),
    )
