use Rattle.std.proofs.Common.{ap, ◌∙◌, arith, Ok, Err, rules}
use Rattle.block_words.specs.declared.buffered_blocks.BlockFault.TheVariants.{NoBlock}
use Rattle.block_words.specs.Words.{block}
use Rattle.block_words.proofs.Runs.{still_runs}
use Rattle.block_buffers.specs.Buffers.{Buffers}
use Rattle.block_words.specs.Rooms.{within}
use Rattle.block_words.proofs.Lists.{within_after_touch}
use Rattle.block_words.proofs.Asked.{asks_past}
use Rattle.journal.specs.Store.{blocks_of}
use Rattle.block_words.proofs.buffered_blocks.Blocks.block.Goals as goal

pub invariant_of-self : goal.invariant_of-self
invariant_of-self g c = record {
  within =
      ap (λ (b : Buffers). within (blocks_of c.args.self.now.store) b.list) c.touch.ensures.buffers
      ∙ within_after_touch (blocks_of c.args.self.now.store) c.args.u c.args.self.now.buffers c.args.self.now.within;
  valid = c.touch.ensures.valid;
}

pub returns-then-u-blocks-clause-asks : goal.returns-then-u-blocks-clause-asks
returns-then-u-blocks-clause-asks g c =
    asks_past g.D.SectorDevice c.args.u c.args.self.now g.met.D.SectorDevice.only_now (omega (arith, c.if-u-blocks.true, c.blocks-2.ensures.value))

pub returns-then-u-blocks-clause-runs : goal.returns-then-u-blocks-clause-runs
returns-then-u-blocks-clause-runs g c = λ m stands.
    still_runs g.D.SectorDevice (block c.args.u) (Err NoBlock) m c.args.self.now.store c.args.self.now.buffers c.args.self.now.buffers c.args.space.now c.args.space.now g.met.D.SectorDevice.only_now stands
    (λ rest f was sv. search rules)

pub returns-in-Some-clause-runs : goal.returns-in-Some-clause-runs
returns-in-Some-clause-runs g c = λ m stands.
    still_runs g.D.SectorDevice (block c.args.u) (Ok c.address.result) m c.args.self.now.store c.args.self.now.buffers c.touch.new.self c.args.space.now c.args.space.now g.met.D.SectorDevice.only_now stands
    (λ rest f was sv. search rules)
