use Rattle.std.proofs.Common.{◌≡◌, None, sym, ap, ◌∙◌, subst, arith, Ok, Err, rules}
use Rattle.block_words.specs.declared.buffered_blocks.BlockFault.TheVariants.{NoBlock}
use Rattle.block_words.specs.Words.{buffer}
use Rattle.block_words.proofs.Runs.{still_runs}
use Rattle.std.specs.Prelude.{MatchResult}
use Rattle.block_buffers.specs.Buffers.{Buffers, slot_of, assigned, touched_if}
use Rattle.block_words.specs.Uses.{blanked_if}
use Rattle.block_words.specs.Rooms.{within}
use Rattle.block_words.proofs.Lists.{within_after_touch, none_of}
use Rattle.block_words.proofs.Asked.{asks_past}
use Rattle.journal.specs.Store.{blocks_of}
use Rattle.block_words.proofs.buffered_blocks.Blocks.buffer.Goals as goal

pub invariant_of-self : goal.invariant_of-self
invariant_of-self g c = record {
  within =
      ap (λ (b : Buffers). within (blocks_of c.args.self.now.store) b.list) c.touch.ensures.buffers
      ∙ within_after_touch (blocks_of c.args.self.now.store) c.args.u c.args.self.now.buffers c.args.self.now.within;
  valid = c.touch.ensures.valid;
}

pub returns-in-None-clause-space : goal.returns-in-None-clause-space
returns-in-None-clause-space g c =
    let bs = c.args.self.now.buffers in
    let sp = c.args.space.now in
    let none : slot_of bs c.args.u ≡ None = sym c.in-None.ensures.slot in
    let same : c.touch.new.self ≡ bs = c.touch.ensures.buffers ∙ ap (λ o. touched_if bs o) (none_of (assigned bs.list c.args.u) none) in
    subst (λ o. MatchResult c.blank.result (λ _. c.blank.new.space ≡ blanked_if o bs sp) (λ _. c.blank.new.space ≡ sp)) (sym none)
    (subst (λ (b : Buffers). MatchResult c.blank.result (λ _. c.blank.new.space ≡ blanked_if None b sp) (λ _. c.blank.new.space ≡ sp)) same c.blank.ensures.space)

pub returns-then-u-blocks-clause-asks : goal.returns-then-u-blocks-clause-asks
returns-then-u-blocks-clause-asks g c =
    asks_past g.D.SectorDevice c.args.u c.args.self.now g.met.D.SectorDevice.only_now (omega (arith, c.if-u-blocks.true, c.blocks-2.ensures.value))

pub returns-then-u-blocks-clause-runs : goal.returns-then-u-blocks-clause-runs
returns-then-u-blocks-clause-runs g c = λ m stands.
    still_runs g.D.SectorDevice (buffer c.args.u) (Err NoBlock) m c.args.self.now.store c.args.self.now.buffers c.args.self.now.buffers c.args.space.now c.args.space.now g.met.D.SectorDevice.only_now stands
    (λ rest f was sv. search rules)

pub returns-in-Some-clause-runs : goal.returns-in-Some-clause-runs
returns-in-Some-clause-runs g c = λ m stands.
    still_runs g.D.SectorDevice (buffer c.args.u) (Ok c.address.result) m c.args.self.now.store c.args.self.now.buffers c.touch.new.self c.args.space.now c.args.space.now g.met.D.SectorDevice.only_now stands
    (λ rest f was sv. search rules)
