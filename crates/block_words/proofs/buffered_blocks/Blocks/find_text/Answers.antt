use Rattle.std.proofs.Common.{◌≡◌, true, false, length, nat_lt, None, sym, ap, ◌∙◌, subst, refl, arith, rules, Result, Ok, Err}
use Rattle.block_words.specs.declared.buffered_blocks.BlockFault.{BlockFault}
use Rattle.block_words.specs.declared.buffered_blocks.BlockFault.TheVariants.{NoBlock}
use Rattle.block_words.specs.declared.buffered_blocks.TextPlace.{TextPlace}
use Rattle.block_words.specs.declared.buffered_blocks.TextPlace.TheVariants.{InBuffer}
use Rattle.block_words.specs.Words.{source}
use Rattle.std.specs.Prelude.{IfSome}
use Rattle.data_space.specs.Space.{buffer_bytes}
use Rattle.std.proofs.lemmas.Bool.{lt-ltb}
use Rattle.block_buffers.specs.Buffers.{slot_of, assigned}
use Rattle.block_words.proofs.Lists.{none_past, none_of}
use Rattle.block_words.proofs.Runs.{source_found, source_read, source_closed, source_failed, refused_runs, still_runs, keeps_store, keeps_saved}
use Rattle.block_words.proofs.Asked.{asks_past}
use Rattle.block_words.proofs.Worn.{reads_by, wears_none}
use Rattle.journal.specs.Store.{device_of, closed_of, blocks_of, text_of}
use Rattle.block_words.proofs.buffered_blocks.Blocks.find_text.Goals as goal

abbrev no_text : Result TextPlace BlockFault
no_text = Err NoBlock

pub returns-then-u-blocks-clause-found : goal.returns-then-u-blocks-clause-found
returns-then-u-blocks-clause-found g c =
    let none : slot_of c.args.self.now.buffers c.args.u ≡ None = none_past (blocks_of c.args.self.now.store) c.args.u c.args.self.now.buffers.list c.args.self.now.within (omega (arith, c.if-u-blocks.true, c.blocks-2.ensures.value)) in
    subst (λ o. IfSome o (λ slot. no_text ≡ Ok (InBuffer slot))) (sym none) tt

pub returns-in-Some-clause-runs : goal.returns-in-Some-clause-runs
returns-in-Some-clause-runs g c = λ m space stands.
    let is : nat_lt c.args.u (length m.saved) ≡ true = ap (λ n. nat_lt c.args.u n) stands.size ∙ lt-ltb c.args.u (blocks_of c.args.self.now.store) (omega (arith, c.if-u-blocks.false, c.blocks-2.ensures.value)) in
    record {
      maps = m;
      wear = _;
      runs = source_found c.args.u m c.args.self.now.buffers space is (assigned c.args.self.now.buffers.list c.args.u) c.in-Some.slot (buffer_bytes space c.in-Some.slot) refl c.in-Some.ensures.slot refl;
      stands = stands;
      kept = keeps_store g.D.SectorDevice c.args.self.now.store m g.met.D.SectorDevice.only_now stands;
      wears = wears_none g.D.SectorDevice (device_of c.args.self.now.store);
      shuts = λ h. h;
      last = λ _. refl;
    }

pub returns-in-Ok-clause-runs : goal.returns-in-Ok-clause-runs
returns-in-Ok-clause-runs g c = λ m space stands.
    let old = c.args.self.now.store in
    let now : closed_of old ≡ false = search rules in
    let open_now : m.closed ≡ false = stands.closed ∙ now in
    let is : nat_lt c.args.u (length m.saved) ≡ true = ap (λ n. nat_lt c.args.u n) stands.size ∙ lt-ltb c.args.u (blocks_of old) (omega (arith, c.if-u-blocks.false, c.blocks-2.ensures.value)) in
    let none = none_of (assigned c.args.self.now.buffers.list c.args.u) (sym c.in-None.ensures.slot) in
    record {
      maps = m;
      wear = _;
      runs = source_read c.args.u m c.args.self.now.buffers space is none open_now (text_of c.read_text.new.self) (c.in-Ok.ensures.ok m stands);
      stands = c.in-Ok.ensures.state m stands;
      kept = keeps_saved g.D.SectorDevice m.closed (device_of old) (device_of c.read_text.new.self) m.saved open_now c.in-Ok.ensures.continues.sectors (c.in-Ok.ensures.stops m stands open_now);
      wears = reads_by g.D.SectorDevice (device_of old) (device_of c.read_text.new.self) 1 c.in-Ok.ensures.continues.sectors c.in-Ok.ensures.begins c.in-Ok.ensures.reads;
      shuts = λ h. h;
      last = λ _. refl;
    }

pub returns-in-Err-clause-runs : goal.returns-in-Err-clause-runs
returns-in-Err-clause-runs g c = λ m space stands.
    let old = c.args.self.now.store in
    let b = c.args.self.now.buffers in
    let is : nat_lt c.args.u (length m.saved) ≡ true = ap (λ n. nat_lt c.args.u n) stands.size ∙ lt-ltb c.args.u (blocks_of old) (omega (arith, c.if-u-blocks.false, c.blocks-2.ensures.value)) in
    let none = none_of (assigned b.list c.args.u) (sym c.in-None.ensures.slot) in
    refused_runs g.D.SectorDevice (source c.args.u) c.in-Err.fault c.from.result m old c.read_text.new.self b space
    c.from.ensures g.met.D.SectorDevice.only_now stands (c.read_text.ensures.state m stands)
    (λ f. search rules) (λ f. search rules) (λ f. search rules)
    (source_closed c.args.u m b space is none) (source_failed c.args.u m b space is none)
    c.read_text.ensures.continues.sectors (c.read_text.ensures.stops m stands) (reads_by g.D.SectorDevice _ _ 1 c.read_text.ensures.continues.sectors c.read_text.ensures.begins c.read_text.ensures.reads)

pub returns-then-u-blocks-clause-asks : goal.returns-then-u-blocks-clause-asks
returns-then-u-blocks-clause-asks g c =
    asks_past g.D.SectorDevice c.args.u c.args.self.now g.met.D.SectorDevice.only_now (omega (arith, c.if-u-blocks.true, c.blocks-2.ensures.value))

pub returns-then-u-blocks-clause-runs : goal.returns-then-u-blocks-clause-runs
returns-then-u-blocks-clause-runs g c = λ m space stands.
    still_runs g.D.SectorDevice (source c.args.u) (Err NoBlock) m c.args.self.now.store c.args.self.now.buffers c.args.self.now.buffers space space g.met.D.SectorDevice.only_now stands
    (λ rest f was sv. search rules)
