use Rattle.std.proofs.Common.{[], ◌∷◌, Ok, Err, refl, sym, subst, arith}
use Rattle.block_words.specs.Words.{buffer}
use Rattle.system_words.specs.declared.words.BlockWord.TheVariants.{Buffer}
use Rattle.interpreter.specs.Blocking.{on_blocks, leaving}
use Rattle.interpreter.specs.State.{with_run}
use Rattle.interpreter.specs.Representation.{core}
use Rattle.interpreter.specs.ServiceContract.{Consulted}
use Rattle.interpreter.specs.declared.forth.Forth.{Forth}
use Rattle.interpreter.proofs.Altering.{refused}
use Rattle.interpreter.proofs.Short.{popping-none, popping-one}
use Rattle.interpreter.proofs.Called.{called, stands_on, rests_on, consulted_well, consulted_failed, consulted_quiet}
use Rattle.interpreter.proofs.forth.Forth.buffer.Goals as goal

pub returns-in-Ok-buffer-clause-consults : goal.returns-in-Ok-buffer-clause-consults
returns-in-Ok-buffer-clause-consults g c = λ levels x stands.
    let old = c.args.self.now in
    let e = c.in-Ok-buffer.ensures in
    let h = called g.D.SectorDevice (buffer c.in-Ok.u) (Ok c.in-Ok-buffer.address) (λ m. []) old.blocks c.buffer.new.self old.space c.buffer.new.space
    e.runs (λ m shut. refl) e.asks.failures e.asks.continues.model stands.rests in
    subst (λ (n : Forth g.row.D.Denot g.D.SectorDevice). Consulted (λ r. on_blocks Buffer (core old) (with_run r x)) (Ok tt) old n levels x) (sym c.leave.ensures.left)
    (consulted_well old (record old { stack = c.in-Ok-buffer.address ∷ c.pop.new.self; space = c.buffer.new.space; blocks = c.buffer.new.self }) c.pop.new.self c.buffer.new.space leaving c.in-Ok-buffer.address h
    (λ r. popping-one (core old) (with_run r x) _ _ _ c.in-Ok.ensures.ok) (stands_on h stands) (omega arith) (λ y. refl))

pub returns-in-Err-buffer-clause-consults : goal.returns-in-Err-buffer-clause-consults
returns-in-Err-buffer-clause-consults g c = λ levels x stands.
    let old = c.args.self.now in
    let e = c.in-Err-buffer.ensures in
    let h = called g.D.SectorDevice (buffer c.in-Ok.u) (Err c.in-Err-buffer.fault) (λ m. []) old.blocks c.buffer.new.self old.space c.buffer.new.space
    e.runs (λ m shut. refl) e.asks.failures e.asks.continues.model stands.rests in
    consulted_failed old _ c.pop.new.self c.buffer.new.space leaving c.in-Err-buffer.fault c.block_fault.result h
    (λ r. popping-one (core old) (with_run r x) _ _ _ c.in-Ok.ensures.ok) (rests_on h stands.rests) (omega arith) refl c.block_fault.ensures.fault

pub returns-in-Err-clause-consults : goal.returns-in-Err-clause-consults
returns-in-Err-clause-consults g c = λ levels x stands.
    let old = c.args.self.now in
    consulted_quiet g.D.SectorDevice g.met.D.SectorDevice.only_now old _ stands refl
    (refused _ stands (core old) refl (λ r. popping-none (core old) (with_run r x) _ c.in-Err.ensures.empty) (omega arith))
