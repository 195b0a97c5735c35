use Rattle.std.proofs.Common.{◌≡◌, ◌∙◌, ◌+◌, ◌<◌, ◌++◌, ◌∷◌, [], length, length-append, append-nil, append_assoc, refl, ap, sym, subst, arith}
use Rattle.std.proofs.lemmas.Grind.{common_steps}
use Rattle.sector_disk.proofs.Moments.{elapses_refl}
use Rattle.block_words.proofs.Saves.{begun_more, continues_then, read_more}
use Rattle.journal.specs.Maps.{spilled}
use Rattle.journal.specs.Store.{StandsFor, by_older, device_of}
use Rattle.journal.proofs.Costs.{reads_within, spills_within}
use Rattle.terminal.specs.Findings.{blocks_for}
use Rattle.terminal.specs.Imported.{Spills}
use Rattle.terminal.specs.Transfer.{as_blocks, block_of, spilled_from}
use Rattle.terminal.proofs.Saving.{blocks_done, blocks_next, blocks_so_far, keeps_none, keeps_then, none_left, one_block_more, spilled_more}
use Rattle.terminal.proofs.importing.spill_blocks.Goals as goal

pub loop-block-init : goal.loop-block-init
loop-block-init g c = record {
  done = [];
  count = omega arith;
  rest = refl;
  stands = λ m stands. stands;
  few = omega arith;
  shuts = refl;
  well = refl;
  stops = keeps_none g.met.D.SectorDevice.only_now c.args.store.now;
  continues = record {
    blocks = refl;
    sectors = refl;
    model = refl;
    time = elapses_refl g.D.SectorDevice.time g.D.SectorDevice.left_since (device_of c.args.store.now);
    failures = omega arith;
  };
  begins = record { few_writes = omega arith; few_syncs = omega arith };
  reads = omega arith;
}

pub returns-then-is_empty-clause-spilled : goal.returns-then-is_empty-clause-spilled
returns-then-is_empty-clause-spilled g c =
    let inv = c.loop-block.invariant in
    let none : length c.loop-block.left.now ≡ 0 = grind (arith, common_steps) in
    let all : inv.done ≡ as_blocks c.args.bytes.now =
    sym (append-nil inv.done) ∙ ap (λ l. inv.done ++ as_blocks l) (sym (none_left c.loop-block.left.now none)) ∙ inv.rest in
    subst (λ blocks. Spills c.args.first blocks c.args.store.now c.loop-block.store) all
    (record { shuts = inv.shuts; stands = inv.stands; few = inv.few; well = inv.well; begins = inv.begins; reads = inv.reads })

-- each block was looked at, and they are enough
pub returns-clause-spilled : goal.returns-clause-spilled
returns-clause-spilled g c =
    let inv = c.loop-block.invariant in
    let all = blocks_done inv.done c.loop-block.left.now c.args.bytes.now inv.rest
    (omega (arith, inv.count, c.loop-block.auto.block, c.loop-block-test.false, c.blocks-block-end.ensures.value, c.requires)) in
    subst (λ blocks. Spills c.args.first blocks c.args.store.now c.loop-block.store) all
    (record { shuts = inv.shuts; stands = inv.stands; few = inv.few; well = inv.well; begins = inv.begins; reads = inv.reads })

pub returns-in_err-left-clause-stops : goal.returns-in_err-left-clause-stops
returns-in_err-left-clause-stops g c =
    let inv = c.loop-block.invariant in
    keeps_then c.args.store.now c.loop-block.store c.spill_next.new.store c.args.first inv.done inv.continues c.spill_next.ensures.continues
    inv.stands inv.stops c.spill_next.ensures.stops

pub loop-block-preserved : goal.loop-block-preserved
loop-block-preserved g c =
    let inv = c.loop-block.invariant in
    let next = c.in_ok-left.ensures.spilled in
    let new = c.spill_next.new.store in
    let bytes = c.loop-block.left.now in
    let some : 0 < length bytes = grind (arith, common_steps) in
    let place : c.args.first + length inv.done ≡ c.loop-block.block = omega (arith, inv.count, c.loop-block.auto.block) in
    let count : length (inv.done ++ block_of bytes ∷ []) ≡ length inv.done + 1 = length-append inv.done (block_of bytes ∷ []) in
    record {
      done = inv.done ++ block_of bytes ∷ [];
      count = omega (arith, count, inv.count, c.loop-block.auto.block);
      rest = ap (λ l. (inv.done ++ block_of bytes ∷ []) ++ as_blocks l) c.in_ok-left.ensures.left
          ∙ append_assoc inv.done (block_of bytes ∷ []) _ ∙ ap (λ l. inv.done ++ l) (sym (blocks_next bytes some)) ∙ inv.rest;
      stands = λ m stands. subst (λ w. StandsFor new w)
          (sym (spilled_more m c.args.first inv.done (block_of bytes) ∙ ap (λ k. spilled (spilled_from m c.args.first inv.done) k (block_of bytes)) place))
          (next.stands (spilled_from m c.args.first inv.done) (inv.stands m stands));
      few = omega (arith, count, next.few, inv.few);
      shuts = next.open_still ∙ sym next.opened ∙ inv.shuts;
      well = c.in_ok-left.ensures.well ∙ inv.well;
      stops = keeps_then c.args.store.now c.loop-block.store new c.args.first inv.done inv.continues c.spill_next.ensures.continues
          inv.stands inv.stops c.spill_next.ensures.stops;
      continues = continues_then c.args.store.now c.loop-block.store new (g.met.D.SectorDevice.widens (device_of new)) inv.continues c.spill_next.ensures.continues;
      begins =
          begun_more g.D.SectorDevice c.args.store.now c.loop-block.store new inv.continues (length inv.done) count
          inv.begins c.spill_next.ensures.begins;
      reads =
          read_more g.D.SectorDevice c.args.store.now c.loop-block.store new inv.continues (length inv.done) count
          inv.reads c.spill_next.ensures.reads;
    }

pub returns-then-is_empty-clause-begins : goal.returns-then-is_empty-clause-begins
returns-then-is_empty-clause-begins g c =
    let old = c.args.store.now in
    let inv = c.loop-block.invariant in
    spills_within g.D.SectorDevice (device_of old) (device_of c.loop-block.store) (by_older old) (length inv.done) (blocks_for (length c.args.bytes.now))
    (omega (arith, blocks_so_far inv.done c.loop-block.left.now c.args.bytes.now inv.rest)) inv.begins

pub returns-then-is_empty-clause-reads : goal.returns-then-is_empty-clause-reads
returns-then-is_empty-clause-reads g c =
    let old = c.args.store.now in
    let inv = c.loop-block.invariant in
    reads_within g.D.SectorDevice (device_of old) (device_of c.loop-block.store) (by_older old) (length inv.done) (blocks_for (length c.args.bytes.now))
    (omega (arith, blocks_so_far inv.done c.loop-block.left.now c.args.bytes.now inv.rest)) inv.reads

pub returns-clause-begins : goal.returns-clause-begins
returns-clause-begins g c =
    let old = c.args.store.now in
    let inv = c.loop-block.invariant in
    spills_within g.D.SectorDevice (device_of old) (device_of c.loop-block.store) (by_older old) (length inv.done) (blocks_for (length c.args.bytes.now))
    (omega (arith, blocks_so_far inv.done c.loop-block.left.now c.args.bytes.now inv.rest)) inv.begins

pub returns-clause-reads : goal.returns-clause-reads
returns-clause-reads g c =
    let old = c.args.store.now in
    let inv = c.loop-block.invariant in
    reads_within g.D.SectorDevice (device_of old) (device_of c.loop-block.store) (by_older old) (length inv.done) (blocks_for (length c.args.bytes.now))
    (omega (arith, blocks_so_far inv.done c.loop-block.left.now c.args.bytes.now inv.rest)) inv.reads

pub returns-in_err-left-clause-begins : goal.returns-in_err-left-clause-begins
returns-in_err-left-clause-begins g c =
    let D = g.D.SectorDevice in
    let old = c.args.store.now in
    let new = c.spill_next.new.store in
    let inv = c.loop-block.invariant in
    let left = c.loop-block.left.now in
    let done = length inv.done in
    let some : 0 < length left = grind (arith, common_steps) in
    spills_within D (device_of old) (device_of new) (by_older old) (done + 1) (blocks_for (length c.args.bytes.now))
    (omega (arith, one_block_more left some, blocks_so_far inv.done left c.args.bytes.now inv.rest))
    (begun_more D old c.loop-block.store new inv.continues done refl inv.begins c.spill_next.ensures.begins)

pub returns-in_err-left-clause-reads : goal.returns-in_err-left-clause-reads
returns-in_err-left-clause-reads g c =
    let D = g.D.SectorDevice in
    let old = c.args.store.now in
    let new = c.spill_next.new.store in
    let inv = c.loop-block.invariant in
    let left = c.loop-block.left.now in
    let done = length inv.done in
    let some : 0 < length left = grind (arith, common_steps) in
    reads_within D (device_of old) (device_of new) (by_older old) (done + 1) (blocks_for (length c.args.bytes.now))
    (omega (arith, one_block_more left some, blocks_so_far inv.done left c.args.bytes.now inv.rest))
    (read_more D old c.loop-block.store new inv.continues done refl inv.reads c.spill_next.ensures.reads)
