use Rattle.std.proofs.Common.{◌≡◌, true, false, ◌+◌, length, refl, suc, sym, ◌∙◌, ap, subst, take, drop, arith, add-one, Err, rules}
use Rattle.std.proofs.lemmas.List.{length-take}
use Rattle.std.specs.Prelude.{slice_index_or, ◌==◌, ◌||◌}
use Rattle.block_buffers.specs.declared.buffers.Assigned.{Assigned}
use Rattle.block_buffers.specs.Buffers.{updated_ones}
use Rattle.journal.specs.Maps.{spilled}
use Rattle.journal.specs.Store.{StandsFor, by_older, is_pending, device_of, blocks_of}
use Rattle.journal.proofs.Costs.{reads_within, spills_within}
use Rattle.block_words.specs.Words.{all_spilled}
use Rattle.block_words.specs.Rooms.{within}
use Rattle.block_words.proofs.Lists.{within_at, within_filter, item_at, among_more}
use Rattle.block_words.proofs.Saves.{begun_more, continues_then, keeps_then_spill, read_more, spilled_more, split_at, device_fault}
use Rattle.block_words.proofs.saving.spill_updated.Goals as goal

pub spill-requires-clause-below : goal.spill-requires-clause-below
spill-requires-clause-below g c =
    let n = (blocks_of c.args.store.now) in
    let xs = c.deref-updated-items.result.now in
    let same = c.deref-updated-items.ensures.0 ∙ c.updated.ensures.updated in
    let all : within (blocks_of c.loop-updated.store) xs ≡ true =
    ap (λ l. within (blocks_of c.loop-updated.store) l) same ∙ ap (λ k. within k (updated_ones c.args.buffers.now)) c.loop-updated.invariant.continues.blocks
    ∙ within_filter n (λ x. x.updated) c.args.buffers.now.list c.requires.within in
    within_at (blocks_of c.loop-updated.store) xs c.loop-updated.updated-index _ all (item_at xs c.loop-updated.updated-index _ c.loop-updated-test.true)

pub returns-in-Err-clause-fault : goal.returns-in-Err-clause-fault
returns-in-Err-clause-fault g c = λ m stands.
    let xs = c.deref-updated-items.result.now in
    let i = c.loop-updated.updated-index in
    let same = c.deref-updated-items.ensures.0 ∙ c.updated.ensures.updated in
    let nothing : Assigned = record { block = 0; slot = 0; updated = false } in
    record {
      before = take i xs;
      this = slice_index_or xs i nothing;
      after = drop (suc i) xs;
      split = sym same ∙ split_at xs i (slice_index_or xs i nothing) (item_at xs i nothing c.loop-updated-test.true);
      shut_so = c.in-Err.ensures.fault (all_spilled (take i xs) c.args.space.now m) (c.loop-updated.invariant.stands m stands)
          (ap Err (device_fault c.in-Err.field-0 (λ is. absurd (let no : false ≡ true = sym c.loop-updated.invariant.opened ∙ c.in-Err.ensures.closed.0 (ap Err is) in cc))));
      begins =
          let front = length-take i xs in
          let below = c.loop-updated-test.true in
          let one : length (take i xs) + 1 ≡ i + 1 = omega (arith, front, below) in (
            begun_more g.D.SectorDevice c.args.store.now c.loop-updated.store c.spill.new.self c.loop-updated.invariant.continues i one
                c.loop-updated.invariant.begins c.spill.ensures.begins,
            read_more g.D.SectorDevice c.args.store.now c.loop-updated.store c.spill.new.self c.loop-updated.invariant.continues i one
                c.loop-updated.invariant.reads c.spill.ensures.reads,
          );
    }

pub returns-in-Err-clause-stops : goal.returns-in-Err-clause-stops
returns-in-Err-clause-stops g c =
    keeps_then_spill g.D.SectorDevice c.args.store.now c.loop-updated.store c.spill.new.self (take c.loop-updated.updated-index c.deref-updated-items.result.now) c.args.space.now
    c.loop-updated.invariant.continues c.spill.ensures.continues c.loop-updated.invariant.stands c.loop-updated.invariant.stops c.spill.ensures.stops

pub returns-in-Err-clause-continues : goal.returns-in-Err-clause-continues
returns-in-Err-clause-continues g c =
    continues_then c.args.store.now c.loop-updated.store c.spill.new.self (g.met.D.SectorDevice.widens (device_of c.spill.new.self)) c.loop-updated.invariant.continues c.spill.ensures.continues

pub loop-updated-preserved : goal.loop-updated-preserved
loop-updated-preserved g c =
    let xs = c.deref-updated-items.result.now in
    let i = c.loop-updated.updated-index in
    let new = c.spill.new.self in
    let sp = c.args.space.now in
    let nothing : Assigned = record { block = 0; slot = 0; updated = false } in
    let x = slice_index_or xs i nothing in
    record {
      stands = λ m stands. rw add-one
          (subst (λ w. StandsFor new w) (sym (spilled_more xs i x sp m (item_at xs i nothing c.loop-updated-test.true)))
          (subst (λ bytes. StandsFor new (spilled (all_spilled (take i xs) sp m) x.block bytes)) c.buffer.ensures.value (c.in-Ok.ensures.ok _ (c.loop-updated.invariant.stands m stands))));
      opened = search rules;
      stops =
          keeps_then_spill g.D.SectorDevice c.args.store.now c.loop-updated.store new (take i xs) c.args.space.now
          c.loop-updated.invariant.continues c.spill.ensures.continues c.loop-updated.invariant.stands c.loop-updated.invariant.stops c.spill.ensures.stops;
      continues = continues_then c.args.store.now c.loop-updated.store new (g.met.D.SectorDevice.widens (device_of new)) c.loop-updated.invariant.continues c.spill.ensures.continues;
      well = c.in-Ok.ensures.well ∙ c.loop-updated.invariant.well;
      pending = λ u. rw add-one
          (c.in-Ok.ensures.pending u ∙ ap (λ t. (u == x.block) || t) (c.loop-updated.invariant.pending u)
          ∙ among_more xs i x u (is_pending c.args.store.now u) (item_at xs i nothing c.loop-updated-test.true));
      begins =
          begun_more g.D.SectorDevice c.args.store.now c.loop-updated.store new c.loop-updated.invariant.continues i (omega arith)
          c.loop-updated.invariant.begins c.spill.ensures.begins;
      reads =
          read_more g.D.SectorDevice c.args.store.now c.loop-updated.store new c.loop-updated.invariant.continues i (omega arith)
          c.loop-updated.invariant.reads c.spill.ensures.reads;
      unmoved = λ zero. absurd (omega (arith, zero));
    }

pub returns-in-Err-clause-begins : goal.returns-in-Err-clause-begins
returns-in-Err-clause-begins g c =
    let D = g.D.SectorDevice in
    let old = c.args.store.now in
    let new = c.spill.new.self in
    let i = c.loop-updated.updated-index in
    let count = ap length (c.deref-updated-items.ensures.0 ∙ c.updated.ensures.updated) in
    spills_within D (device_of old) (device_of new) (by_older old) (i + 1) (length (updated_ones c.args.buffers.now))
    (omega (arith, c.loop-updated-test.true, count))
    (begun_more D old c.loop-updated.store new c.loop-updated.invariant.continues i refl c.loop-updated.invariant.begins c.spill.ensures.begins)

pub returns-in-Err-clause-reads : goal.returns-in-Err-clause-reads
returns-in-Err-clause-reads g c =
    let D = g.D.SectorDevice in
    let old = c.args.store.now in
    let new = c.spill.new.self in
    let i = c.loop-updated.updated-index in
    let count = ap length (c.deref-updated-items.ensures.0 ∙ c.updated.ensures.updated) in
    reads_within D (device_of old) (device_of new) (by_older old) (i + 1) (length (updated_ones c.args.buffers.now))
    (omega (arith, c.loop-updated-test.true, count))
    (read_more D old c.loop-updated.store new c.loop-updated.invariant.continues i refl c.loop-updated.invariant.reads c.spill.ensures.reads)

pub returns-clause-begins : goal.returns-clause-begins
returns-clause-begins g c =
    let old = c.args.store.now in
    let count = ap length (c.deref-updated-items.ensures.0 ∙ c.updated.ensures.updated) in
    spills_within g.D.SectorDevice (device_of old) (device_of c.loop-updated.store) (by_older old) c.loop-updated.updated-index
    (length (updated_ones c.args.buffers.now)) (omega (arith, c.loop-updated.auto.updated-index-end, count)) c.loop-updated.invariant.begins

pub returns-clause-reads : goal.returns-clause-reads
returns-clause-reads g c =
    let old = c.args.store.now in
    let count = ap length (c.deref-updated-items.ensures.0 ∙ c.updated.ensures.updated) in
    reads_within g.D.SectorDevice (device_of old) (device_of c.loop-updated.store) (by_older old) c.loop-updated.updated-index
    (length (updated_ones c.args.buffers.now)) (omega (arith, c.loop-updated.auto.updated-index-end, count)) c.loop-updated.invariant.reads
