use Rattle.std.proofs.Common.{Err, ap, length, arith}
use Rattle.journal.specs.Store.{by_older, device_of, pending_count}
use Rattle.journal.proofs.Costs.{reads_few, spills_few}
use Rattle.block_words.proofs.Saves.{all_begins, all_reads}
use Rattle.terminal.specs.Findings.{blocks_for}
use Rattle.terminal.specs.Transfer.{as_blocks, spilled_from}
use Rattle.terminal.proofs.Saving.{fails_then, length_blocks, saves_then}
use Rattle.terminal.proofs.importing.import_bytes.Goals as goal

pub returns-in-Ok-clause-imported : goal.returns-in-Ok-clause-imported
returns-in-Ok-clause-imported g c =
    let sp = c.in_ok-spill_blocks.ensures.spilled in
    let mid = c.spill_blocks.new.store in
    let blocks = as_blocks c.args.bytes.now in
    record {
      saved = λ m stands. (
        c.in-Ok.ensures.ok (spilled_from m c.args.first blocks) (sp.stands m stands),
        record {
          stops = saves_then c.args.store.now mid c.commit.new.self c.args.first blocks c.spill_blocks.ensures.continues c.commit.ensures.continues
              sp.stands c.spill_blocks.ensures.stops c.commit.ensures.stops m stands;
          after = c.in-Ok.ensures.after (spilled_from m c.args.first blocks) (sp.stands m stands);
        },
      );
      begins =
          all_begins g.D.SectorDevice c.args.store.now mid c.commit.new.self c.spill_blocks.ensures.continues (length blocks) sp.few
          sp.begins c.commit.ensures.begins;
      reads =
          all_reads g.D.SectorDevice c.args.store.now mid c.commit.new.self c.spill_blocks.ensures.continues (length blocks) sp.few
          sp.reads c.commit.ensures.reads;
    }

pub returns-in-Ok-clause-kept : goal.returns-in-Ok-clause-kept
returns-in-Ok-clause-kept g c = saves_then c.args.store.now c.spill_blocks.new.store c.commit.new.self c.args.first (as_blocks c.args.bytes.now)
    c.spill_blocks.ensures.continues c.commit.ensures.continues
    c.in_ok-spill_blocks.ensures.spilled.stands c.spill_blocks.ensures.stops c.commit.ensures.stops

pub returns-in-Err-clause-kept : goal.returns-in-Err-clause-kept
returns-in-Err-clause-kept g c = saves_then c.args.store.now c.spill_blocks.new.store c.commit.new.self c.args.first (as_blocks c.args.bytes.now)
    c.spill_blocks.ensures.continues c.commit.ensures.continues
    c.in_ok-spill_blocks.ensures.spilled.stands c.spill_blocks.ensures.stops c.commit.ensures.stops

pub returns-in-Err-clause-device : goal.returns-in-Err-clause-device
returns-in-Err-clause-device g c =
    let sp = c.in_ok-spill_blocks.ensures.spilled in
    fails_then c.args.store.now c.spill_blocks.new.store c.commit.new.self c.in-Err.field-0 sp.shuts sp.well
    (λ is. c.in-Err.ensures.closed.0 (ap Err is)) (λ is. c.in-Err.ensures.device (ap Err is))

pub returns-in-Ok-clause-begins : goal.returns-in-Ok-clause-begins
returns-in-Ok-clause-begins g c =
    let sp = c.in_ok-spill_blocks.ensures.spilled in
    let n = blocks_for (length c.args.bytes.now) in
    all_begins g.D.SectorDevice c.args.store.now c.spill_blocks.new.store c.commit.new.self c.spill_blocks.ensures.continues n
    (omega (arith, length_blocks c.args.bytes.now, sp.few)) c.spill_blocks.ensures.begins c.commit.ensures.begins

pub returns-in-Ok-clause-reads : goal.returns-in-Ok-clause-reads
returns-in-Ok-clause-reads g c =
    let sp = c.in_ok-spill_blocks.ensures.spilled in
    let n = blocks_for (length c.args.bytes.now) in
    all_reads g.D.SectorDevice c.args.store.now c.spill_blocks.new.store c.commit.new.self c.spill_blocks.ensures.continues n
    (omega (arith, length_blocks c.args.bytes.now, sp.few)) c.spill_blocks.ensures.reads c.commit.ensures.reads

pub returns-in-Err-clause-begins : goal.returns-in-Err-clause-begins
returns-in-Err-clause-begins g c =
    let sp = c.in_ok-spill_blocks.ensures.spilled in
    let n = blocks_for (length c.args.bytes.now) in
    all_begins g.D.SectorDevice c.args.store.now c.spill_blocks.new.store c.commit.new.self c.spill_blocks.ensures.continues n
    (omega (arith, length_blocks c.args.bytes.now, sp.few)) c.spill_blocks.ensures.begins c.commit.ensures.begins

pub returns-in-Err-clause-reads : goal.returns-in-Err-clause-reads
returns-in-Err-clause-reads g c =
    let sp = c.in_ok-spill_blocks.ensures.spilled in
    let n = blocks_for (length c.args.bytes.now) in
    all_reads g.D.SectorDevice c.args.store.now c.spill_blocks.new.store c.commit.new.self c.spill_blocks.ensures.continues n
    (omega (arith, length_blocks c.args.bytes.now, sp.few)) c.spill_blocks.ensures.reads c.commit.ensures.reads

-- Spills that fail are fewer calls than a save of all blocks.
pub returns-in_err-spill_blocks-clause-begins : goal.returns-in_err-spill_blocks-clause-begins
returns-in_err-spill_blocks-clause-begins g c =
    let old = c.args.store.now in
    spills_few g.D.SectorDevice (device_of old) (device_of c.spill_blocks.new.store) (by_older old) (blocks_for (length c.args.bytes.now)) (pending_count old)
    c.spill_blocks.ensures.begins

pub returns-in_err-spill_blocks-clause-reads : goal.returns-in_err-spill_blocks-clause-reads
returns-in_err-spill_blocks-clause-reads g c =
    let old = c.args.store.now in
    reads_few g.D.SectorDevice (device_of old) (device_of c.spill_blocks.new.store) (by_older old) (blocks_for (length c.args.bytes.now)) (pending_count old)
    c.spill_blocks.ensures.reads
