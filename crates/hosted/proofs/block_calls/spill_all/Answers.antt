use Rattle.std.proofs.Common.{◌≡◌, ◌≤◌, ◌+◌, ◌∙◌, length, refl, subst, sym, arith}
use Rattle.std.proofs.lemmas.Bool.{false_from_ne_true}
use Rattle.std.specs.Prelude.{nat_lt}
use Rattle.journal.specs.Layout.{count_below}
use Rattle.journal.specs.Maps.{spilled}
use Rattle.journal.specs.Store.{blocks_of, by_older, closed_of, device_of, is_pending, pending_count}
use Rattle.journal.proofs.Costs.{reads_within, spills_within}
use Rattle.block_words.proofs.Saves.{begun_more, read_more}
use Rattle.hosted.proofs.Counts.{count_one}
use Rattle.hosted.proofs.Spills.{fewer_left, holds_after, spilled_one}
use Rattle.hosted.proofs.Stores.{continues_then, keeps_then}
use Rattle.hosted.proofs.block_calls.spill_all.Goals as goal

pub returns-in_err-spill-clause-stops : goal.returns-in_err-spill-clause-stops
returns-in_err-spill-clause-stops g c = λ m stands live.
    let before = c.loop-block.invariant in
    let now = before.left m stands in
    keeps_then g.D.SectorDevice c.args.store.now c.loop-block.store c.spill.new.self m now.0 before.continues c.spill.ensures.continues
    before.stops c.spill.ensures.stops stands live now.1 now.3 now.4

pub returns-in_err-spill-clause-continues : goal.returns-in_err-spill-clause-continues
returns-in_err-spill-clause-continues g c =
    continues_then g.D.SectorDevice c.args.store.now c.loop-block.store c.spill.new.self g.met.D.SectorDevice.widens
    c.loop-block.invariant.continues c.spill.ensures.continues

pub loop-block-preserved : goal.loop-block-preserved
loop-block-preserved g c =
    let before = c.loop-block.invariant in
    let i = c.loop-block.block-index in
    record {
      left = λ m stands.
          let now = before.left m stands in (
            spilled now.0 _ c.split_at.result.0.now,
            c.in_ok-spill.ensures.ok now.0 now.1,
            spilled_one now.0 m c.args.blocks.now c.args.bytes.now c.loop-block.rest.now c.split_at.result.0.now c.split_at.result.1.now i
                c.loop-block-test.true c.split_at.ensures.front c.split_at.ensures.back now.2,
            now.3,
            now.4,
          );
      live = false_from_ne_true (closed_of c.spill.new.self) (λ is. let no = c.in_ok-spill.ensures.shuts.1 is in cc);
      there = holds_after (λ b. nat_lt b (blocks_of c.args.store.now)) c.args.blocks.now i c.loop-block-test.true before.there;
      whole = fewer_left c.args.blocks.now i _ _ c.loop-block-test.true before.whole c.split_at.ensures.back_len;
      stops = λ m stands live.
          let now = before.left m stands in
          keeps_then g.D.SectorDevice c.args.store.now c.loop-block.store c.spill.new.self m now.0 before.continues c.spill.ensures.continues
          before.stops c.spill.ensures.stops stands live now.1 now.3 now.4;
      continues =
          continues_then g.D.SectorDevice c.args.store.now c.loop-block.store c.spill.new.self g.met.D.SectorDevice.widens
          before.continues c.spill.ensures.continues;
      well = c.in_ok-spill.ensures.well ∙ before.well;
      pending =
          let more : pending_count c.spill.new.self ≤ pending_count c.loop-block.store + 1 =
          subst (λ n. count_below (is_pending c.spill.new.self) n ≤ pending_count c.loop-block.store + 1) (sym c.spill.ensures.continues.blocks)
          (count_one (is_pending c.loop-block.store) (is_pending c.spill.new.self) _ (blocks_of c.loop-block.store) c.in_ok-spill.ensures.pending) in
          omega (arith, more, before.pending);
      begins =
          begun_more g.D.SectorDevice c.args.store.now c.loop-block.store c.spill.new.self before.continues i (omega arith)
          before.begins c.spill.ensures.begins;
      reads =
          read_more g.D.SectorDevice c.args.store.now c.loop-block.store c.spill.new.self before.continues i (omega arith)
          before.reads c.spill.ensures.reads;
    }

pub returns-in_err-spill-clause-begins : goal.returns-in_err-spill-clause-begins
returns-in_err-spill-clause-begins g c =
    let D = g.D.SectorDevice in
    let old = c.args.store.now in
    let new = c.spill.new.self in
    let before = c.loop-block.invariant in
    let i = c.loop-block.block-index in
    spills_within D (device_of old) (device_of new) (by_older old) (i + 1) (length c.args.blocks.now) (omega (arith, c.loop-block-test.true))
    (begun_more D old c.loop-block.store new before.continues i refl before.begins c.spill.ensures.begins)

pub returns-in_err-spill-clause-reads : goal.returns-in_err-spill-clause-reads
returns-in_err-spill-clause-reads g c =
    let D = g.D.SectorDevice in
    let old = c.args.store.now in
    let new = c.spill.new.self in
    let before = c.loop-block.invariant in
    let i = c.loop-block.block-index in
    reads_within D (device_of old) (device_of new) (by_older old) (i + 1) (length c.args.blocks.now) (omega (arith, c.loop-block-test.true))
    (read_more D old c.loop-block.store new before.continues i refl before.reads c.spill.ensures.reads)

pub returns-clause-pending : goal.returns-clause-pending
returns-clause-pending g c = omega (arith, c.loop-block.invariant.pending, c.loop-block.auto.block-index-end)

pub returns-clause-begins : goal.returns-clause-begins
returns-clause-begins g c =
    let old = c.args.store.now in
    spills_within g.D.SectorDevice (device_of old) (device_of c.loop-block.store) (by_older old) c.loop-block.block-index (length c.args.blocks.now)
    (omega (arith, c.loop-block.auto.block-index-end)) c.loop-block.invariant.begins

pub returns-clause-reads : goal.returns-clause-reads
returns-clause-reads g c =
    let old = c.args.store.now in
    reads_within g.D.SectorDevice (device_of old) (device_of c.loop-block.store) (by_older old) c.loop-block.block-index (length c.args.blocks.now)
    (omega (arith, c.loop-block.auto.block-index-end)) c.loop-block.invariant.reads
