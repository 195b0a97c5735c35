use Rattle.std.proofs.Common.{◌≡◌, true, false, nat_lt, length, ◌∙◌, ap, refl, rules, Ok}
use Rattle.block_words.specs.Words.{block}
use Rattle.std.proofs.lemmas.Bool.{lt-ltb}
use Rattle.block_words.proofs.Runs.{block_runs, block_closed, block_failed, refused_runs}
use Rattle.block_words.proofs.Saves.{continues_then, fetched_begins, fetched_reads}
use Rattle.journal.specs.Store.{closed_of, blocks_of, device_of}
use Rattle.block_words.proofs.Worn.{reads_by}
use Rattle.block_words.proofs.assigning.fetch.Goals as goal

pub returns-in-Ok-assign_slot-clause-runs : goal.returns-in-Ok-assign_slot-clause-runs
returns-in-Ok-assign_slot-clause-runs g c = λ m stands.
    let old = c.args.store.now in
    let mid = c.read_block.new.self in
    let now : closed_of old ≡ false = search rules in
    let open_now : m.closed ≡ false = stands.closed ∙ now in
    let is : nat_lt c.args.u (length m.saved) ≡ true = ap (λ n. nat_lt c.args.u n) stands.size ∙ lt-ltb c.args.u (blocks_of old) c.requires.below in
    block_runs g.D.SectorDevice c.args.u m old c.assign_slot.new.store c.args.buffers.now c.assign_slot.new.buffers c.args.space.now is c.requires.none open_now
    _ _ _ _ (ap (λ a. Ok a) c.fill_buffer.ensures.address) c.fill_buffer.ensures.bytes mid c.read_block.new.out (c.in-Ok.ensures.ok m stands) (reads_by g.D.SectorDevice _ _ 1 c.in-Ok.ensures.continues.sectors c.in-Ok.ensures.begins c.in-Ok.ensures.reads)
    c.in-Ok.ensures.continues.time c.assign_slot.ensures.continues.time c.in-Ok.ensures.continues.sectors (c.in-Ok.ensures.stops m stands open_now) (c.in-Ok-assign_slot.ensures.runs m c.read_block.new.out (c.in-Ok.ensures.state m stands))

pub returns-in-Err-assign_slot-clause-runs : goal.returns-in-Err-assign_slot-clause-runs
returns-in-Err-assign_slot-clause-runs g c = λ m stands.
    let old = c.args.store.now in
    let mid = c.read_block.new.self in
    let now : closed_of old ≡ false = search rules in
    let open_now : m.closed ≡ false = stands.closed ∙ now in
    let is : nat_lt c.args.u (length m.saved) ≡ true = ap (λ n. nat_lt c.args.u n) stands.size ∙ lt-ltb c.args.u (blocks_of old) c.requires.below in
    block_runs g.D.SectorDevice c.args.u m old c.assign_slot.new.store c.args.buffers.now c.assign_slot.new.buffers c.args.space.now is c.requires.none open_now
    _ _ _ _ refl refl mid c.read_block.new.out (c.in-Ok.ensures.ok m stands) (reads_by g.D.SectorDevice _ _ 1 c.in-Ok.ensures.continues.sectors c.in-Ok.ensures.begins c.in-Ok.ensures.reads)
    c.in-Ok.ensures.continues.time c.assign_slot.ensures.continues.time c.in-Ok.ensures.continues.sectors (c.in-Ok.ensures.stops m stands open_now) (c.in-Err-assign_slot.ensures.runs m c.read_block.new.out (c.in-Ok.ensures.state m stands))

pub returns-in-Err-clause-runs : goal.returns-in-Err-clause-runs
returns-in-Err-clause-runs g c = λ m stands.
    let old = c.args.store.now in
    let b = c.args.buffers.now in
    let sp = c.args.space.now in
    let is : nat_lt c.args.u (length m.saved) ≡ true = ap (λ n. nat_lt c.args.u n) stands.size ∙ lt-ltb c.args.u (blocks_of old) c.requires.below in
    refused_runs g.D.SectorDevice (block c.args.u) c.in-Err.fault c.from.result m old c.read_block.new.self b sp
    c.from.ensures g.met.D.SectorDevice.only_now stands (c.read_block.ensures.state m stands)
    (λ f. search rules) (λ f. search rules) (λ f. search rules)
    (block_closed c.args.u m b sp is c.requires.none) (block_failed c.args.u m b sp is c.requires.none)
    c.read_block.ensures.continues.sectors (c.read_block.ensures.stops m stands) (reads_by g.D.SectorDevice _ _ 1 c.read_block.ensures.continues.sectors c.read_block.ensures.begins c.read_block.ensures.reads)

pub returns-in-Ok-assign_slot-clause-continues : goal.returns-in-Ok-assign_slot-clause-continues
returns-in-Ok-assign_slot-clause-continues g c =
    continues_then c.args.store.now c.read_block.new.self c.assign_slot.new.store (g.met.D.SectorDevice.widens (device_of c.assign_slot.new.store))
    c.in-Ok.ensures.continues c.assign_slot.ensures.continues

pub returns-in-Ok-assign_slot-clause-begins : goal.returns-in-Ok-assign_slot-clause-begins
returns-in-Ok-assign_slot-clause-begins g c =
    fetched_begins g.D.SectorDevice c.args.store.now c.read_block.new.self c.assign_slot.new.store c.in-Ok.ensures.continues
    c.in-Ok.ensures.begins c.assign_slot.ensures.begins

pub returns-in-Ok-assign_slot-clause-reads : goal.returns-in-Ok-assign_slot-clause-reads
returns-in-Ok-assign_slot-clause-reads g c =
    fetched_reads g.D.SectorDevice c.args.store.now c.read_block.new.self c.assign_slot.new.store c.in-Ok.ensures.continues
    c.in-Ok.ensures.reads c.assign_slot.ensures.reads

pub returns-in-Err-assign_slot-clause-begins : goal.returns-in-Err-assign_slot-clause-begins
returns-in-Err-assign_slot-clause-begins g c =
    fetched_begins g.D.SectorDevice c.args.store.now c.read_block.new.self c.assign_slot.new.store c.in-Ok.ensures.continues
    c.in-Ok.ensures.begins c.assign_slot.ensures.begins

pub returns-in-Err-assign_slot-clause-reads : goal.returns-in-Err-assign_slot-clause-reads
returns-in-Err-assign_slot-clause-reads g c =
    fetched_reads g.D.SectorDevice c.args.store.now c.read_block.new.self c.assign_slot.new.store c.in-Ok.ensures.continues
    c.in-Ok.ensures.reads c.assign_slot.ensures.reads
