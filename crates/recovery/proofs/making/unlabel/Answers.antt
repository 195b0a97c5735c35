use Rattle.std.proofs.Common.{refl, ◌≡◌, ◌∙◌, sym, ap, subst, replicate, IsTrue, rules}
use Rattle.std.proofs.lemmas.Result.{on_ok_weaker}
use Rattle.sector_disk.specs.Disk.{Disk, MayLeave}
use Rattle.sector_disk.proofs.Moments.{leaves_then, sector_other}
use Rattle.journal.specs.Steps.{IsAsSynced}
use Rattle.journal.proofs.Calls.{passes_then}
use Rattle.recovery.specs.Making.{InUnit, IsUnlabelled, TakenAway}
use Rattle.recovery.proofs.Makings.{half_now, half_cleared}
use Rattle.recovery.proofs.making.unlabel.Goals as goal

pub returns-in_err-settle-clause-stops : goal.returns-in_err-settle-clause-stops
returns-in_err-settle-clause-stops g c = λ keeps x since. half_now c.args.label.now (g.D.SectorDevice.disk c.args.device.now) x (c.settle.ensures.stops keeps x since)

pub returns-else-eq-clause-stops : goal.returns-else-eq-clause-stops
returns-else-eq-clause-stops g c = λ keeps x since. half_now c.args.label.now (g.D.SectorDevice.disk c.args.device.now) x (c.settle.ensures.stops keeps x since)

pub returns-then-eq-clause-stops : goal.returns-then-eq-clause-stops
returns-then-eq-clause-stops g c = λ keeps.
    let D = g.D.SectorDevice in
    let label = c.args.label.now in
    let d = D.disk c.args.device.now in
    let mid = c.settle.new.device in
    let honest : IsTrue (D.keeps_model mid) = subst IsTrue (sym c.settle.ensures.passes.model) keeps in
    let same : c.settle.new.found ≡ label = search rules in
    let good : d.content 0 ≡ label = sym (c.in_ok-settle.ensures.label keeps) ∙ same in
    leaves_then D.time D.left_since c.args.device.now mid c.write_label.new.device (MayLeave d) (IsAsSynced (InUnit (D.disk mid) 0) (D.disk mid)) (TakenAway label d)
    c.settle.ensures.passes.time c.write_label.ensures.passes.time (c.settle.ensures.stops keeps) (c.write_label.ensures.stops honest)
    (half_now label d)
    (λ x is. half_cleared label d (g.met.D.SectorDevice.present c.args.device.now keeps) good x
    (subst (λ (e : Disk). IsAsSynced (InUnit e 0) e x) (c.in_ok-settle.ensures.ok keeps) is))

pub returns-then-eq-clause-passes : goal.returns-then-eq-clause-passes
returns-then-eq-clause-passes g c =
    passes_then g.D.SectorDevice c.args.device.now c.settle.new.device c.write_label.new.device g.met.D.SectorDevice.widens
    c.in_ok-settle.ensures.passes c.write_label.ensures.passes refl

pub returns-then-eq-clause-others : goal.returns-then-eq-clause-others
returns-then-eq-clause-others g c = λ keeps.
    let D = g.D.SectorDevice in
    let mid = c.settle.new.device in
    let honest : IsTrue (D.keeps_model mid) = subst IsTrue (sym c.settle.ensures.passes.model) keeps in
    on_ok_weaker c.write_label.result
    (λ is k other. ap (λ (d : Disk). d.content k) is ∙ sector_other (D.disk mid).content 0 k (replicate 512 0) other
    ∙ ap (λ (d : Disk). d.content k) (c.in_ok-settle.ensures.ok keeps))
    (c.write_label.ensures.ok honest)

pub returns-else-eq-clause-others : goal.returns-else-eq-clause-others
returns-else-eq-clause-others g c = λ keeps k other. ap (λ (d : Disk). d.content k) (c.in_ok-settle.ensures.ok keeps)

pub returns-then-eq-clause-ok : goal.returns-then-eq-clause-ok
returns-then-eq-clause-ok g c = λ keeps.
    let D = g.D.SectorDevice in
    let mid = c.settle.new.device in
    let honest : IsTrue (D.keeps_model mid) = subst IsTrue (sym c.settle.ensures.passes.model) keeps in
    on_ok_weaker c.write_label.result
    (λ is. subst (λ (d : Disk). IsUnlabelled c.args.label.now d) (sym is) (record { other = λ same. c.requires.told (sym same); synced = λ k. refl }))
    (c.write_label.ensures.ok honest)
