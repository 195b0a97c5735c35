use Rattle.std.proofs.Common.{false, Ok, Err, true, refl, ap, arith}
use Rattle.block_words.specs.Words.{save_buffers, next_map}
use Rattle.block_words.specs.Calls.{save_begun}
use Rattle.block_words.specs.Parts.{buffers_of}
use Rattle.cell_machine.specs.Value.{Did}
use Rattle.interpreter.proofs.Called.{called, stands_on, rests_on, consulted_well, consulted_failed}
use Rattle.interpreter.proofs.forth.Forth.save_buffers.Goals as goal

pub returns-in-Ok-clause-consults : goal.returns-in-Ok-clause-consults
returns-in-Ok-clause-consults g c = λ levels x stands.
    let old = c.args.self.now in
    let e = c.in-Ok.ensures in
    let h = called g.D.SectorDevice save_buffers (Ok tt) (λ m. save_begun m.closed (next_map (buffers_of old.blocks) old.space m) true) old.blocks c.save_buffers.new.self old.space old.space
    e.runs (λ m shut. ap (λ t. save_begun t (next_map (buffers_of old.blocks) old.space m) true) shut) e.saves.failures e.saves.continues.model stands.rests in
    consulted_well old _ old.stack old.space (λ v c x. Did c x) tt h (λ r. refl) (stands_on h stands) (omega arith) (λ y. refl)

pub returns-in-Err-clause-consults : goal.returns-in-Err-clause-consults
returns-in-Err-clause-consults g c = λ levels x stands.
    let old = c.args.self.now in
    let e = c.in-Err.ensures in
    let h = called g.D.SectorDevice save_buffers (Err c.in-Err.fault) (λ m. save_begun m.closed (next_map (buffers_of old.blocks) old.space m) false) old.blocks c.save_buffers.new.self old.space old.space
    e.runs (λ m shut. ap (λ t. save_begun t (next_map (buffers_of old.blocks) old.space m) false) shut) e.saves.failures e.saves.continues.model stands.rests in
    consulted_failed old _ old.stack old.space (λ v c x. Did c x) c.in-Err.fault c.block_fault.result h (λ r. refl) (rests_on h stands.rests) (omega arith) refl c.block_fault.ensures.fault
