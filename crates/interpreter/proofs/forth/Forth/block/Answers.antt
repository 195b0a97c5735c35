use Rattle.std.proofs.Common.{[], ◌∷◌, Ok, Err, refl, sym, subst, arith}
use Rattle.block_words.specs.Words.{block}
use Rattle.system_words.specs.declared.words.BlockWord.TheVariants.{Block}
use Rattle.interpreter.specs.Blocking.{on_blocks, leaving}
use Rattle.interpreter.specs.State.{with_run}
use Rattle.interpreter.specs.Representation.{core}
use Rattle.interpreter.specs.ServiceContract.{Consulted}
use Rattle.interpreter.specs.declared.forth.Forth.{Forth}
use Rattle.interpreter.proofs.Altering.{refused}
use Rattle.interpreter.proofs.Short.{popping-none, popping-one}
use Rattle.interpreter.proofs.Called.{called, stands_on, rests_on, consulted_well, consulted_failed, consulted_quiet}
use Rattle.interpreter.proofs.forth.Forth.block.Goals as goal

pub returns-in-Ok-block-clause-consults : goal.returns-in-Ok-block-clause-consults
returns-in-Ok-block-clause-consults g c = λ levels x stands.
    let old = c.args.self.now in
    let e = c.in-Ok-block.ensures in
    let h = called g.D.SectorDevice (block c.in-Ok.u) (Ok c.in-Ok-block.address) (λ m. []) old.blocks c.block.new.self old.space c.block.new.space
    e.runs (λ m shut. refl) e.asks.failures e.asks.continues.model stands.rests in
    subst (λ (n : Forth g.row.D.Denot g.D.SectorDevice). Consulted (λ r. on_blocks Block (core old) (with_run r x)) (Ok tt) old n levels x) (sym c.leave.ensures.left)
    (consulted_well old (record old { stack = c.in-Ok-block.address ∷ c.pop.new.self; space = c.block.new.space; blocks = c.block.new.self }) c.pop.new.self c.block.new.space leaving c.in-Ok-block.address h
    (λ r. popping-one (core old) (with_run r x) _ _ _ c.in-Ok.ensures.ok) (stands_on h stands) (omega arith) (λ y. refl))

pub returns-in-Err-block-clause-consults : goal.returns-in-Err-block-clause-consults
returns-in-Err-block-clause-consults g c = λ levels x stands.
    let old = c.args.self.now in
    let e = c.in-Err-block.ensures in
    let h = called g.D.SectorDevice (block c.in-Ok.u) (Err c.in-Err-block.fault) (λ m. []) old.blocks c.block.new.self old.space c.block.new.space
    e.runs (λ m shut. refl) e.asks.failures e.asks.continues.model stands.rests in
    consulted_failed old _ c.pop.new.self c.block.new.space leaving c.in-Err-block.fault c.block_fault.result h
    (λ r. popping-one (core old) (with_run r x) _ _ _ c.in-Ok.ensures.ok) (rests_on h stands.rests) (omega arith) refl c.block_fault.ensures.fault

pub returns-in-Err-clause-consults : goal.returns-in-Err-clause-consults
returns-in-Err-clause-consults g c = λ levels x stands.
    let old = c.args.self.now in
    consulted_quiet g.D.SectorDevice g.met.D.SectorDevice.only_now old _ stands refl
    (refused _ stands (core old) refl (λ r. popping-none (core old) (with_run r x) _ c.in-Err.ensures.empty) (omega arith))
