use Rattle.std.proofs.Common.{◌≡◌, ◌⊎◌, ◌∙◌, ◌-◌, inl, inr, ⊎_elim, Some, None, sym, subst, ap, IsTrue}
use Rattle.std.specs.Prelude.{MatchResult}
use Rattle.std.proofs.lemmas.Result.{MatchResult-weaker}
use Rattle.sector_disk.specs.Disk.{Disk, Image, MayLeave}
use Rattle.sector_disk.proofs.Moments.{leaves_then}
use Rattle.journal.specs.Calls.{BeginsAtMost, ReadsAtMost}
use Rattle.journal.proofs.Calls.{begins_of, proceeds_then}
use Rattle.recovery.specs.Opened.{writes_for, syncs_for}
use Rattle.recovery.specs.Recovered.{damage_refusal_by, recovery_refusal, FinishLeaves, LeavesBy, reads_by}
use Rattle.recovery.specs.declared.fault.OpenFault.TheVariants.{Device}
use Rattle.recovery.proofs.Recoveries.{handed_on, refusal_first, refusal_past, begins_then, reads_then, reads_first}
use Rattle.recovery.proofs.recovering.recover.Goals as goal

pub returns-in_err-start-clause-stops : goal.returns-in_err-start-clause-stops
returns-in_err-start-clause-stops g c = λ keeps x since. inl (c.start.ensures.stops (g.met.D.SectorDevice.keeps_both _ keeps) x since)

pub returns-in_err-start-clause-reads : goal.returns-in_err-start-clause-reads
returns-in_err-start-clause-reads g c = λ keeps.
    reads_first g.D.SectorDevice c.args.version c.args.blocks.number (g.D.SectorDevice.disk c.args.device.now).content c.args.device.now c.start.new.device c.start.ensures.costs.few_reads

pub returns-in_err-start-clause-exact : goal.returns-in_err-start-clause-exact
returns-in_err-start-clause-exact g c = λ keeps.
    handed_on c.from_residual.result _ _ _ c.from_residual.ensures.1 (⊎_elim
    (λ device. inl device)
    (λ refused. inr (refusal_first c.args.version c.args.blocks.number (g.D.SectorDevice.disk c.args.device.now).content _ refused))
    (c.in_err-start.ensures.exact (g.met.D.SectorDevice.keeps_both _ keeps)))

pub returns-clause-exact : goal.returns-clause-exact
returns-clause-exact g c = λ keeps.
    let D = g.D.SectorDevice in
    let version = c.args.version in
    let n = c.args.blocks.number in
    let image = (D.disk c.args.device.now).content in
    let honest : IsTrue (D.keeps_sectors c.start.new.device) = subst IsTrue (sym c.start.ensures.passes.units) keeps in
    let same : recovery_refusal version n image ≡ damage_refusal_by version n image = refusal_past version n image (c.in_ok-start.ensures.exact (g.met.D.SectorDevice.keeps_both _ keeps)) in
    MatchResult-weaker c.finish.result
    (subst (λ (d : Disk). MatchResult c.finish.result (λ _. damage_refusal_by version n d.content ≡ None) (λ e. (e ≡ Device) ⊎ (damage_refusal_by version n d.content ≡ Some e)))
    (c.in_ok-start.ensures.ok (g.met.D.SectorDevice.keeps_both _ keeps)) (c.finish.ensures.exact honest))
    (λ _ none. same ∙ none)
    (λ e. ⊎_elim (λ device. inl device) (λ refused. inr (same ∙ refused)))

pub returns-clause-stops : goal.returns-clause-stops
returns-clause-stops g c = λ keeps.
    let D = g.D.SectorDevice in
    let n = c.args.blocks.number in
    let d = D.disk c.args.device.now in
    let honest : IsTrue (D.keeps_sectors c.start.new.device) = subst IsTrue (sym c.start.ensures.passes.units) keeps in
    leaves_then D.time D.left_since c.args.device.now c.start.new.device c.finish.new.device
    (MayLeave d) (FinishLeaves c.args.version n (D.disk c.start.new.device).content) (LeavesBy c.args.version n d)
    c.start.ensures.passes.time c.finish.ensures.passes.time (c.start.ensures.stops (g.met.D.SectorDevice.keeps_both _ keeps)) (c.finish.ensures.stops honest)
    (λ x may. inl may)
    (λ x left. inr (c.in_ok-start.ensures.label (g.met.D.SectorDevice.keeps_both _ keeps), subst (λ (i : Image). FinishLeaves c.args.version n i x) (ap (λ (e : Disk). e.content) (c.in_ok-start.ensures.ok (g.met.D.SectorDevice.keeps_both _ keeps))) left))

pub returns-clause-passes : goal.returns-clause-passes
returns-clause-passes g c =
    proceeds_then g.D.SectorDevice c.args.device.now c.start.new.device c.finish.new.device g.met.D.SectorDevice.widens
    c.start.ensures.passes c.finish.ensures.passes

pub returns-clause-begins : goal.returns-clause-begins
returns-clause-begins g c = λ keeps.
    let D = g.D.SectorDevice in
    let n = c.args.blocks.number in
    let honest : IsTrue (D.keeps_sectors c.start.new.device) = subst IsTrue (sym c.start.ensures.passes.units) keeps in
    let within : (image : Image) → Type 0 = λ image. BeginsAtMost D c.start.new.device c.finish.new.device (writes_for n image) (syncs_for image - 1) in
    begins_then D n (D.disk c.args.device.now).content c.args.device.now c.start.new.device c.finish.new.device (begins_of D c.start.ensures.costs)
    (subst within (ap (λ (e : Disk). e.content) (c.in_ok-start.ensures.ok (g.met.D.SectorDevice.keeps_both _ keeps))) (c.finish.ensures.begins honest))

pub returns-clause-reads : goal.returns-clause-reads
returns-clause-reads g c = λ keeps.
    let D = g.D.SectorDevice in
    let n = c.args.blocks.number in
    let honest : IsTrue (D.keeps_sectors c.start.new.device) = subst IsTrue (sym c.start.ensures.passes.units) keeps in
    let within : (image : Image) → Type 0 = λ image. ReadsAtMost D c.start.new.device c.finish.new.device (reads_by c.args.version n image - 1) in
    reads_then D c.args.version n (D.disk c.args.device.now).content c.args.device.now c.start.new.device c.finish.new.device c.start.ensures.costs.few_reads
    (subst within (ap (λ (e : Disk). e.content) (c.in_ok-start.ensures.ok (g.met.D.SectorDevice.keeps_both _ keeps))) (c.finish.ensures.reads honest))
