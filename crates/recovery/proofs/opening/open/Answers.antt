use Rattle.std.proofs.Common.{◌≡◌, ◌∙◌, inl, inr, ⊎_elim, true, sym, subst, IsTrue, ap, arith}
use Rattle.sector_disk.specs.Disk.{Image}
use Rattle.sector_disk.proofs.Moments.{elapses_refl}
use Rattle.journal.specs.Calls.{BeginsAtMost, ReadsAtMost}
use Rattle.journal.specs.Chain.{HasMeaning}
use Rattle.journal.specs.Clean.{IsClean}
use Rattle.journal.specs.Images.{block_of, meaning}
use Rattle.journal.specs.Maps.{fresh}
use Rattle.journal.specs.Store.{StandsFor, disk_of}
use Rattle.journal.specs.Technique.{is_journal}
use Rattle.journal.proofs.Blocks.{same_below}
use Rattle.journal.proofs.Stores.{left_journal}
use Rattle.recovery.specs.Label.{blocks_in, is_size}
use Rattle.recovery.specs.Opened.{RecoveryLeaves, writes_for, syncs_for, reads_for}
use Rattle.recovery.proofs.Recoveries.{clean_by, whole_by, same_refusal, never_refused, recovers_now, recovers_by, reads_2}
use Rattle.recovery.proofs.opening.open.Goals as goal

pub returns-in_default-clause-stops : goal.returns-in_default-clause-stops
returns-in_default-clause-stops g c = λ keeps n size x since.
    recovers_now n (g.D.SectorDevice.disk c.args.device) x (g.met.D.SectorDevice.only_now c.args.device x since)

pub returns-in_default-clause-time : goal.returns-in_default-clause-time
returns-in_default-clause-time g c = elapses_refl g.D.SectorDevice.time g.D.SectorDevice.left_since c.args.device

pub adopt-requires-clause-clean : goal.adopt-requires-clause-clean
adopt-requires-clause-clean g c = λ honest.
    let D = g.D.SectorDevice in
    let keeps : IsTrue (D.keeps_sectors c.args.device) = subst IsTrue c.recover.ensures.passes.units honest in
    clean_by c.in-Some.number (D.disk c.args.device) (D.disk c.recover.new.device) c.in-Some.ensures.many c.in-Some.ensures.few
    (c.in-Ok.ensures.label keeps) (c.in-Ok.ensures.ok keeps).recovered

pub returns-in-Ok-clause-ok : goal.returns-in-Ok-clause-ok
returns-in-Ok-clause-ok g c = λ keeps.
    let D = g.D.SectorDevice in
    let n = c.in-Some.number in
    let old = (D.disk c.args.device).content in
    let new = (D.disk c.recover.new.device).content in
    let honest : IsTrue (D.keeps_sectors c.recover.new.device) = subst IsTrue (sym c.recover.ensures.passes.units) keeps in
    subst (λ m. StandsFor c.adopt.result (fresh (meaning m old))) (sym c.adopt.ensures.blocks)
    (subst (λ blocks. StandsFor c.adopt.result (fresh blocks)) (same_below (block_of n new) (block_of n old) n (c.in-Ok.ensures.ok keeps).recovered.blocks) (c.adopt.ensures.state honest))

pub returns-in-Ok-clause-clean : goal.returns-in-Ok-clause-clean
returns-in-Ok-clause-clean g c = λ keeps.
    let D = g.D.SectorDevice in
    subst (λ n. IsClean n (disk_of c.adopt.result)) (sym c.adopt.ensures.blocks)
    (subst (λ d. IsClean c.in-Some.number (D.disk d)) (sym c.adopt.ensures.device)
    (clean_by c.in-Some.number (D.disk c.args.device) (D.disk c.recover.new.device) c.in-Some.ensures.many c.in-Some.ensures.few
    (c.in-Ok.ensures.label keeps) (c.in-Ok.ensures.ok keeps).recovered))

pub returns-in-Ok-clause-gate : goal.returns-in-Ok-clause-gate
returns-in-Ok-clause-gate g c = λ keeps. ap (λ d. (g.D.SectorDevice.disk d).content 1) c.adopt.ensures.device ∙ (c.in-Ok.ensures.ok keeps).gate

pub returns-in-Ok-clause-after : goal.returns-in-Ok-clause-after
returns-in-Ok-clause-after g c = λ keeps x may. left_journal c.adopt.result _ (returns-in-Ok-clause-ok g c keeps) c.adopt.ensures.closed x may (ap is_journal c.adopt.ensures.technique)

pub returns-in-Ok-clause-meaning : goal.returns-in-Ok-clause-meaning
returns-in-Ok-clause-meaning g c = λ keeps.
    let image = (g.D.SectorDevice.disk c.args.device).content in
    subst (λ n. HasMeaning n image) (sym c.adopt.ensures.blocks) (record {
      label = record { many = c.in-Some.ensures.many; few = c.in-Some.ensures.few; label = c.in-Ok.ensures.label keeps };
      whole = whole_by c.in-Some.number image (c.in-Ok.ensures.exact keeps);
    })

pub returns-in-Ok-clause-exact : goal.returns-in-Ok-clause-exact
returns-in-Ok-clause-exact g c = λ keeps.
    let count = subst (λ k. c.in-Some.number ≡ blocks_in k) c.sectors.ensures c.in-Some.ensures.count in
    let is = subst (λ k. is_size k ≡ true) c.sectors.ensures c.in-Some.ensures.some in
    same_refusal c.in-Some.number _ (g.D.SectorDevice.disk c.args.device).content count is ∙ c.in-Ok.ensures.exact keeps

pub returns-in-Err-clause-exact : goal.returns-in-Err-clause-exact
returns-in-Err-clause-exact g c = λ keeps.
    let count = subst (λ k. c.in-Some.number ≡ blocks_in k) c.sectors.ensures c.in-Some.ensures.count in
    let is = subst (λ k. is_size k ≡ true) c.sectors.ensures c.in-Some.ensures.some in
    ⊎_elim (λ device. inl device)
    (λ refused. inr (same_refusal c.in-Some.number _ (g.D.SectorDevice.disk c.args.device).content count is ∙ refused))
    (c.in-Err.ensures.exact keeps)

pub returns-in-Err-clause-good : goal.returns-in-Err-clause-good
returns-in-Err-clause-good g c = λ keeps n size good.
    ⊎_elim (λ device. device)
    (λ refused. absurd (never_refused n _ _ _ size good refused))
    (returns-in-Err-clause-exact g c keeps)

pub returns-in-Ok-clause-stops : goal.returns-in-Ok-clause-stops
returns-in-Ok-clause-stops g c = λ keeps n size.
    let D = g.D.SectorDevice in
    let d = D.disk c.args.device in
    let one : c.in-Some.number ≡ n = omega (arith, size, c.in-Some.ensures.size, c.sectors.ensures) in
    subst (λ now. (x : Image) → D.left_since now (D.time c.args.device) x → RecoveryLeaves n d x) (sym c.adopt.ensures.device)
    (λ x since. subst (λ m. RecoveryLeaves m d x) one
    (recovers_by c.in-Some.number d (g.met.D.SectorDevice.present c.args.device (g.met.D.SectorDevice.keeps_both _ keeps)) c.in-Some.ensures.many c.in-Some.ensures.few x
    (c.recover.ensures.stops keeps x since)))

pub returns-in-Ok-clause-begins : goal.returns-in-Ok-clause-begins
returns-in-Ok-clause-begins g c = λ keeps n size.
    let D = g.D.SectorDevice in
    let image = (D.disk c.args.device).content in
    let one : c.in-Some.number ≡ n = omega (arith, size, c.in-Some.ensures.size, c.sectors.ensures) in
    subst (λ d. BeginsAtMost D c.args.device d (writes_for n image) (syncs_for image)) (sym c.adopt.ensures.device)
    (subst (λ m. BeginsAtMost D c.args.device c.recover.new.device (writes_for m image) (syncs_for image)) one (c.recover.ensures.begins keeps))

pub returns-in-Ok-clause-reads : goal.returns-in-Ok-clause-reads
returns-in-Ok-clause-reads g c = λ keeps n size.
    let D = g.D.SectorDevice in
    let image = (D.disk c.args.device).content in
    let one : c.in-Some.number ≡ n = omega (arith, size, c.in-Some.ensures.size, c.sectors.ensures) in
    subst (λ d. ReadsAtMost D c.args.device d (reads_for n image)) (sym c.adopt.ensures.device)
    (subst (λ m. ReadsAtMost D c.args.device c.recover.new.device (reads_for m image)) one
    (subst (λ reads. ReadsAtMost D c.args.device c.recover.new.device reads) (reads_2 c.in-Some.number image) (c.recover.ensures.reads keeps)))

pub returns-in-Err-clause-stops : goal.returns-in-Err-clause-stops
returns-in-Err-clause-stops g c = λ keeps n size x since.
    let D = g.D.SectorDevice in
    let d = D.disk c.args.device in
    let one : c.in-Some.number ≡ n = omega (arith, size, c.in-Some.ensures.size, c.sectors.ensures) in
    subst (λ m. RecoveryLeaves m d x) one
    (recovers_by c.in-Some.number d (g.met.D.SectorDevice.present c.args.device (g.met.D.SectorDevice.keeps_both _ keeps)) c.in-Some.ensures.many c.in-Some.ensures.few x
    (c.recover.ensures.stops keeps x since))

pub returns-in-Err-clause-begins : goal.returns-in-Err-clause-begins
returns-in-Err-clause-begins g c = λ keeps n size.
    let D = g.D.SectorDevice in
    let image = (D.disk c.args.device).content in
    let one : c.in-Some.number ≡ n = omega (arith, size, c.in-Some.ensures.size, c.sectors.ensures) in
    subst (λ m. BeginsAtMost D c.args.device c.recover.new.device (writes_for m image) (syncs_for image)) one (c.recover.ensures.begins keeps)

pub returns-in-Err-clause-reads : goal.returns-in-Err-clause-reads
returns-in-Err-clause-reads g c = λ keeps n size.
    let D = g.D.SectorDevice in
    let image = (D.disk c.args.device).content in
    let one : c.in-Some.number ≡ n = omega (arith, size, c.in-Some.ensures.size, c.sectors.ensures) in
    subst (λ m. ReadsAtMost D c.args.device c.recover.new.device (reads_for m image)) one
    (subst (λ reads. ReadsAtMost D c.args.device c.recover.new.device reads) (reads_2 c.in-Some.number image) (c.recover.ensures.reads keeps))
