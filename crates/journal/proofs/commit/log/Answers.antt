use Rattle.std.proofs.Common.{◌≡◌, ◌∙◌, inl, inr, sym, subst, IsTrue, refl}
use Rattle.std.proofs.lemmas.Result.{on_ok_weaker}
use Rattle.sector_disk.specs.Disk.{Disk, written, settled}
use Rattle.sector_disk.proofs.Moments.{leaves_then}
use Rattle.journal.specs.Steps.{IsAsSynced}
use Rattle.journal.specs.declared.sizes.Layout.TheVariants.{Journal}
use Rattle.journal.proofs.Calls.{passes_err, passes_then}
use Rattle.journal.proofs.commit.log.Goals as goal

pub returns-clause-stops : goal.returns-clause-stops
returns-clause-stops g c = λ keeps.
    let D = g.D.SectorDevice in
    let d = D.disk c.args.device.now in
    let mid = settled (written d 2 c.args.bytes.now) in
    let first = c.write_through.ensures in
    let then = c.write_through-2.ensures in
    let honest : IsTrue (D.keeps_sectors c.write_through.new.device) = subst IsTrue (sym first.passes.units) keeps in
    let is_mid : D.disk c.write_through.new.device ≡ mid = c.in_ok-write_through.ensures.ok (g.met.D.SectorDevice.keeps_both c.args.device.now keeps) in
    leaves_then D.time D.left_since c.args.device.now c.write_through.new.device c.write_through-2.new.device
    (IsAsSynced (λ j. j ≡ 2) d) (IsAsSynced (λ j. j ≡ 1) (D.disk c.write_through.new.device)) _
    first.passes.time then.passes.time (first.stops Journal keeps) (then.stops Journal honest)
    (λ x is. inl is) (λ x is. inr (subst (λ (e : Disk). IsAsSynced (λ j. j ≡ 1) e x) is_mid is))

pub returns-in_err-write_through-clause-passes : goal.returns-in_err-write_through-clause-passes
returns-in_err-write_through-clause-passes g c =
    passes_err g.D.SectorDevice c.args.device.now c.write_through.new.device c.in_err-write_through.ensures.passes refl c.from_residual.ensures.0

pub returns-clause-passes : goal.returns-clause-passes
returns-clause-passes g c =
    passes_then g.D.SectorDevice c.args.device.now c.write_through.new.device c.write_through-2.new.device g.met.D.SectorDevice.widens
    c.in_ok-write_through.ensures.passes c.write_through-2.ensures.passes refl

pub returns-clause-ok : goal.returns-clause-ok
returns-clause-ok g c = λ keeps.
    let D = g.D.SectorDevice in
    let both = g.met.D.SectorDevice.keeps_both in
    let mid = c.write_through.new.device in
    let honest : IsTrue (D.keeps_sectors mid) = subst IsTrue (sym c.write_through.ensures.passes.units) keeps in
    on_ok_weaker c.write_through-2.result
    (λ is. is ∙ (λ t. settled (written (c.in_ok-write_through.ensures.ok (both c.args.device.now keeps) t) 1 (c.open_gate.ensures t))))
    (c.write_through-2.ensures.ok (both mid honest))

pub returns-in_err-write_through-clause-stops : goal.returns-in_err-write_through-clause-stops
returns-in_err-write_through-clause-stops g c = λ keeps x since. inl (c.write_through.ensures.stops Journal keeps x since)
