use Rattle.std.proofs.Common.{◌≡◌, ◌∙◌, inl, inr, refl, ap, subst}
use Rattle.std.specs.Prelude.{not}
use Rattle.std.proofs.lemmas.Result.{on_ok_weaker}
use Rattle.sector_disk.specs.Disk.{Disk, written, settled}
use Rattle.sector_disk.proofs.Moments.{leaves_then}
use Rattle.journal.proofs.Calls.{keeps_on, passes_then}
use Rattle.journal.specs.PageLayout.{gate_at, gate_bytes, record_at}
use Rattle.sector_disk.specs.Pages.{InPage}
use Rattle.journal.specs.Steps.{IsAsSynced}
use Rattle.journal.specs.declared.sizes.Layout.TheVariants.{Pages}
use Rattle.journal.proofs.pages.saving.turn.Goals as goal

pub returns-clause-ok : goal.returns-clause-ok
returns-clause-ok g c = λ keeps.
    let D = g.D.SectorDevice in
    let old = c.args.device.now in
    let mid = c.write_through.new.device in
    let is_mid : D.disk mid ≡ settled (written (D.disk old) (record_at (not c.args.is_open)) c.args.next.now) =
    c.in_ok-write_through.ensures.ok keeps ∙ ap (λ k. settled (written (D.disk old) k c.args.next.now)) c.record_sector.ensures in
    let honest = keeps_on D old mid keeps c.write_through.ensures.passes in
    on_ok_weaker c.write_through-2.result
    (λ is. is ∙ (λ t. settled (written (is_mid t) gate_at ((c.gate.ensures ∙ ap (gate_bytes (not c.args.is_open)) c.sum.ensures) t))))
    (c.write_through-2.ensures.ok honest)

pub returns-in_err-write_through-clause-stops : goal.returns-in_err-write_through-clause-stops
returns-in_err-write_through-clause-stops g c = λ keeps x since.
    let D = g.D.SectorDevice in
    inl (subst (λ k. IsAsSynced (InPage k) (D.disk c.args.device.now) x) c.record_sector.ensures (c.write_through.ensures.stops Pages keeps x since))

pub returns-clause-stops : goal.returns-clause-stops
returns-clause-stops g c = λ keeps.
    let D = g.D.SectorDevice in
    let old = c.args.device.now in
    let mid = c.write_through.new.device in
    let is_mid : D.disk mid ≡ settled (written (D.disk old) (record_at (not c.args.is_open)) c.args.next.now) =
    c.in_ok-write_through.ensures.ok keeps ∙ ap (λ k. settled (written (D.disk old) k c.args.next.now)) c.record_sector.ensures in
    let honest = keeps_on D old mid keeps c.write_through.ensures.passes in
    leaves_then D.time D.left_since old mid c.write_through-2.new.device
    (IsAsSynced (InPage c.record_sector.result) (D.disk old)) (IsAsSynced (InPage gate_at) (D.disk mid)) _
    c.write_through.ensures.passes.time c.write_through-2.ensures.passes.time (c.write_through.ensures.stops Pages keeps) (c.write_through-2.ensures.stops Pages honest)
    (λ x is. inl (subst (λ k. IsAsSynced (InPage k) (D.disk old) x) c.record_sector.ensures is))
    (λ x is. inr (subst (λ (e : Disk). IsAsSynced (InPage gate_at) e x) is_mid is))

pub returns-clause-passes : goal.returns-clause-passes
returns-clause-passes g c =
    passes_then g.D.SectorDevice c.args.device.now c.write_through.new.device c.write_through-2.new.device g.met.D.SectorDevice.widens
    c.in_ok-write_through.ensures.passes c.write_through-2.ensures.passes refl
