use Rattle.std.proofs.Common.{true, sym, ap, subst, Ok}
use Rattle.block_buffers.specs.Buffers.{Buffers, none_assigned, IsValid}
use Rattle.block_words.specs.Words.{flush, next_map}
use Rattle.block_words.specs.Calls.{CallRuns, save_begun}
use Rattle.block_words.specs.Rooms.{within}
use Rattle.block_words.proofs.Valid.{valid_none}
use Rattle.journal.specs.Store.{blocks_of}
use Rattle.block_words.proofs.buffered_blocks.Blocks.flush.Goals as goal

pub returns-in-Ok-clause-runs : goal.returns-in-Ok-clause-runs
returns-in-Ok-clause-runs g c = λ m stands.
    let b = c.args.self.now.buffers in
    let sp = c.args.space.now in
    subst (λ (x : Buffers). CallRuns g.D.SectorDevice flush (Ok tt) (save_begun m.closed (next_map b sp m) true) m c.args.self.now.store c.save.new.store b x sp sp)
    (sym c.unassign_all.ensures) (c.in-Ok.ensures.runs m (λ bs. none_assigned) stands)

pub returns-in-Err-clause-runs : goal.returns-in-Err-clause-runs
returns-in-Err-clause-runs g c = λ m stands. c.in-Err.ensures.runs m (λ bs. none_assigned) stands

pub invariant_of-self : goal.invariant_of-self
invariant_of-self g c = record {
  within = ap (λ (b : Buffers). within (blocks_of c.save.new.store) b.list) c.unassign_all.ensures;
  valid = subst IsValid (sym c.unassign_all.ensures) valid_none;
}
