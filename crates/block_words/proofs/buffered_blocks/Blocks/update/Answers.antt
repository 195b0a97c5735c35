use Rattle.std.proofs.Common.{ap, ◌∙◌, Ok, Err, rules}
use Rattle.block_words.specs.declared.buffered_blocks.BlockFault.TheVariants.{NoBuffer}
use Rattle.block_words.specs.Words.{update}
use Rattle.block_words.proofs.Runs.{still_runs}
use Rattle.block_buffers.specs.Buffers.{Buffers}
use Rattle.block_words.specs.Rooms.{within}
use Rattle.block_words.proofs.Lists.{within_after_mark}
use Rattle.journal.specs.Store.{blocks_of}
use Rattle.block_words.proofs.buffered_blocks.Blocks.update.Goals as goal

pub invariant_of-self : goal.invariant_of-self
invariant_of-self g c = record {
  within =
      ap (λ (b : Buffers). within (blocks_of c.args.self.now.store) b.list) c.mark.ensures.buffers
      ∙ within_after_mark (blocks_of c.args.self.now.store) c.args.self.now.buffers c.args.self.now.within;
  valid = c.mark.ensures.valid;
}

pub returns-then-mark-clause-runs : goal.returns-then-mark-clause-runs
returns-then-mark-clause-runs g c = λ m space stands.
    still_runs g.D.SectorDevice update (Ok tt) m c.args.self.now.store c.args.self.now.buffers c.mark.new.self space space g.met.D.SectorDevice.only_now stands (λ rest f was sv. search rules)

pub returns-else-mark-clause-runs : goal.returns-else-mark-clause-runs
returns-else-mark-clause-runs g c = λ m space stands.
    still_runs g.D.SectorDevice update (Err NoBuffer) m c.args.self.now.store c.args.self.now.buffers c.mark.new.self space space g.met.D.SectorDevice.only_now stands (λ rest f was sv. search rules)
