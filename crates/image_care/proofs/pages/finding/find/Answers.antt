use Rattle.std.proofs.Common.{◌≡◌, ◌⊎◌, inl, inr, ⊎_elim, sym, subst, IsTrue}
use Rattle.std.specs.Prelude.{MatchResult}
use Rattle.std.proofs.lemmas.Result.{MatchResult-weaker}
use Rattle.sector_disk.specs.Disk.{Disk}
use Rattle.recovery.specs.declared.fault.OpenFault.TheVariants.{Device, Damaged}
use Rattle.journal.specs.PageImages.{IsWhole}
use Rattle.recovery.proofs.Recoveries.{handed_on}
use Rattle.recovery.proofs.Upgrades.{only_read_then}
use Rattle.journal.proofs.Calls.{begins_of}
use Rattle.image_care.proofs.Findings.{told_by_reads}
use Rattle.image_care.proofs.pages.finding.find.Goals as goal

pub returns-clause-exact : goal.returns-clause-exact
returns-clause-exact g c = λ keeps.
    let D = g.D.SectorDevice in
    let n = c.args.blocks.number in
    let label = c.in_ok-read_label.ensures in
    let honest : IsTrue (D.keeps_model c.read_label.new.device) = subst IsTrue (sym c.read_label.ensures.passes.model) keeps in
    MatchResult-weaker c.look.result
    (subst (λ (d : Disk). MatchResult c.look.result (λ _. IsWhole n d.content) (λ e. (e ≡ Device) ⊎ ((e ≡ Damaged) × ¬ IsWhole n d.content)))
    (c.read_label.ensures.disk keeps) (c.look.ensures.exact honest))
    (λ _ whole. record { label = label.exact keeps; good = label.ok keeps; whole = whole })
    (λ e. ⊎_elim (λ device. inl device) (λ damaged. inr (inr (label.exact keeps, damaged.0, damaged.1))))

pub returns-in_err-read_label-clause-exact : goal.returns-in_err-read_label-clause-exact
returns-in_err-read_label-clause-exact g c = λ keeps.
    handed_on c.from_residual.result _ _ _ c.from_residual.ensures.1
    (⊎_elim (λ device. inl device) (λ refused. inr (inl refused)) (c.in_err-read_label.ensures.exact keeps))

pub returns-clause-only_read : goal.returns-clause-only_read
returns-clause-only_read g c =
    let one = c.read_label.ensures in
    let two = c.look.ensures in
    only_read_then g.D.SectorDevice c.args.device.now c.read_label.new.device c.look.new.device g.met.D.SectorDevice.widens
    (record { disk = one.disk; stops = one.stops; passes = one.passes; begins = begins_of g.D.SectorDevice one.costs })
    (record { disk = two.disk; stops = two.stops; passes = two.passes; begins = two.begins })

pub returns-clause-tells : goal.returns-clause-tells
returns-clause-tells g c =
    let D = g.D.SectorDevice in
    told_by_reads D c.args.device.now c.read_label.new.device c.look.new.device c.look.result c.in_ok-read_label.ensures.well
    (returns-clause-only_read g c) c.look.ensures.tells
