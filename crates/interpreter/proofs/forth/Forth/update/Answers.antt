use Rattle.std.proofs.Common.{◌≡◌, [], Ok, Err, refl, ap, arith}
use Rattle.block_words.specs.declared.buffered_blocks.BlockFault.TheVariants.{NoBuffer}
use Rattle.block_words.specs.Words.{update}
use Rattle.journal.specs.declared.store.Store.{Store}
use Rattle.journal.specs.Store.{device_of}
use Rattle.journal.specs.Suits.{suits}
use Rattle.cell_machine.specs.Value.{Did}
use Rattle.interpreter.proofs.Called.{called, stands_on, rests_on, consulted_well, consulted_failed, tells_none}
use Rattle.interpreter.proofs.forth.Forth.update.Goals as goal

pub returns-in-Ok-clause-consults : goal.returns-in-Ok-clause-consults
returns-in-Ok-clause-consults g c = λ levels x stands.
    let old = c.args.self.now in
    let e = c.in-Ok.ensures in
    let model = ap (λ (s : Store g.row.D.Denot g.D.SectorDevice). suits g.D.SectorDevice (device_of s)) e.store in
    let count = ap (λ (s : Store g.row.D.Denot g.D.SectorDevice). g.D.SectorDevice.failures (device_of s)) e.store in
    let h = called g.D.SectorDevice update (Ok tt) (λ m. []) old.blocks c.update.new.self old.space old.space
    (λ m stands. e.runs m old.space stands) (λ m shut. refl) count model stands.rests in
    consulted_well old _ old.stack old.space (λ v c x. Did c x) tt h (λ r. refl) (stands_on h stands) (omega arith) (λ y. refl)

pub returns-in-Err-clause-consults : goal.returns-in-Err-clause-consults
returns-in-Err-clause-consults g c = λ levels x stands.
    let old = c.args.self.now in
    let e = c.in-Err.ensures in
    let model = ap (λ (s : Store g.row.D.Denot g.D.SectorDevice). suits g.D.SectorDevice (device_of s)) e.store in
    let other : c.in-Err.fault ≡ NoBuffer = e.only in
    let count = ap (λ (s : Store g.row.D.Denot g.D.SectorDevice). g.D.SectorDevice.failures (device_of s)) e.store in
    let h = called g.D.SectorDevice update (Err c.in-Err.fault) (λ m. []) old.blocks c.update.new.self old.space old.space
    (λ m stands. e.runs m old.space stands) (λ m shut. refl) (tells_none (Unit {0}) c.in-Err.fault _ _ other count) model stands.rests in
    consulted_failed old _ old.stack old.space (λ v c x. Did c x) c.in-Err.fault c.block_fault.result h (λ r. refl) (rests_on h stands.rests) (omega arith) refl c.block_fault.ensures.fault
