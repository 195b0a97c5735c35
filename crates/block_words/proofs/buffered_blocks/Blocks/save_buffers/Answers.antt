use Rattle.std.proofs.Common.{true, sym, ◌∙◌, ap, subst, Ok}
use Rattle.block_buffers.specs.Buffers.{Buffers, unmarked}
use Rattle.block_words.specs.Words.{save_buffers, next_map}
use Rattle.block_words.specs.Calls.{CallRuns, save_begun}
use Rattle.block_words.specs.Rooms.{within}
use Rattle.block_words.proofs.Lists.{within_unmarked}
use Rattle.journal.specs.Store.{blocks_of}
use Rattle.block_words.proofs.buffered_blocks.Blocks.save_buffers.Goals as goal

pub returns-in-Ok-clause-runs : goal.returns-in-Ok-clause-runs
returns-in-Ok-clause-runs g c = λ m stands.
    let b = c.args.self.now.buffers in
    let sp = c.args.space.now in
    subst (λ (x : Buffers). CallRuns g.D.SectorDevice save_buffers (Ok tt) (save_begun m.closed (next_map b sp m) true) m c.args.self.now.store c.save.new.store b x sp sp)
    (sym c.unmark_all.ensures.buffers) (c.in-Ok.ensures.runs m unmarked stands)

pub returns-in-Err-clause-runs : goal.returns-in-Err-clause-runs
returns-in-Err-clause-runs g c = λ m stands. c.in-Err.ensures.runs m unmarked stands

pub invariant_of-self : goal.invariant_of-self
invariant_of-self g c = record {
  within =
      ap (λ (b : Buffers). within (blocks_of c.save.new.store) b.list) c.unmark_all.ensures.buffers
      ∙ ap (λ n. within n (unmarked c.args.self.now.buffers).list) c.in-Ok.ensures.saves.continues.blocks
      ∙ within_unmarked (blocks_of c.args.self.now.store) c.args.self.now.buffers c.args.self.now.within;
  valid = c.unmark_all.ensures.valid;
}
