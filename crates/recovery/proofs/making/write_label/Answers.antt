use Rattle.std.proofs.Common.{◌∙◌, refl, ap, subst, sym, IsTrue}
use Rattle.std.proofs.lemmas.Result.{on_ok_weaker}
use Rattle.sector_disk.specs.Disk.{MayLeaveEither, settled}
use Rattle.sector_disk.proofs.Moments.{leaves_then}
use Rattle.journal.specs.Steps.{IsAsSynced}
use Rattle.journal.proofs.Calls.{passes_by, passes_then, unit_written, unit_synced}
use Rattle.journal.proofs.Units.{wrote, may_only, call_left, synced_or_not, sync_left}
use Rattle.recovery.specs.Making.{InUnit}
use Rattle.journal.proofs.Paging.{now_left}
use Rattle.recovery.proofs.making.write_label.Goals as goal

pub returns-clause-ok : goal.returns-clause-ok
returns-clause-ok g c = λ keeps.
    let D = g.D.SectorDevice in
    let honest : IsTrue (D.keeps_model c.write.new.self) = subst IsTrue (sym c.write.ensures.model) keeps in
    on_ok_weaker c.sync.result (λ is. is ∙ ap settled (c.in_ok-write.ensures.ok keeps)) (c.sync.ensures.ok honest)

pub returns-in_err-write-clause-stops : goal.returns-in_err-write-clause-stops
returns-in_err-write-clause-stops g c = λ keeps x since.
    let D = g.D.SectorDevice in
    let d = D.disk c.args.device.now in
    let e = D.disk c.write.new.self in
    call_left (InUnit d 0) d 0 (λ j same. same) e x (wrote c.write.result d e 0 c.args.bytes.now (c.write.ensures.ok keeps) (c.write.ensures.err keeps)) (c.write.ensures.stops x since)

pub returns-clause-stops : goal.returns-clause-stops
returns-clause-stops g c = λ keeps.
    let D = g.D.SectorDevice in
    let old = c.args.device.now in
    let mid = c.write.new.self in
    let new = c.sync.new.self in
    let d = D.disk old in
    let e = D.disk mid in
    let honest : IsTrue (D.keeps_model mid) = subst IsTrue (sym c.write.ensures.model) keeps in
    let wrote = wrote c.write.result d e 0 c.args.bytes.now (c.write.ensures.ok keeps) (c.write.ensures.err keeps) in
    leaves_then D.time D.left_since old mid new
    (MayLeaveEither d e) (MayLeaveEither e (D.disk new)) (IsAsSynced (InUnit d 0) d)
    c.write.ensures.time c.sync.ensures.time c.write.ensures.stops c.sync.ensures.stops
    (λ x either. call_left (InUnit d 0) d 0 (λ j same. same) e x wrote either)
    (λ x either. now_left (InUnit d 0) d e x (may_only (InUnit d 0) d 0 (λ j same. same) e wrote)
    (sync_left e (D.disk new) x (g.met.D.SectorDevice.present mid honest)
    (synced_or_not c.sync.result e (D.disk new) (c.sync.ensures.ok honest) (c.sync.ensures.err honest)) either))

pub returns-clause-passes : goal.returns-clause-passes
returns-clause-passes g c =
    let D = g.D.SectorDevice in
    let old = c.args.device.now in
    let mid = c.write.new.self in
    let new = c.sync.new.self in
    let w = c.write.ensures in
    let s = c.sync.ensures in
    passes_then D old mid new g.met.D.SectorDevice.widens
    (passes_by D old mid w.sectors w.model w.units (λ keeps. unit_written c.write.result (D.disk old) (D.disk mid) 0 c.args.bytes.now (w.ok keeps) (w.err keeps)) w.time c.in_ok-write.ensures.failures)
    (passes_by D mid new s.sectors s.model s.units (λ keeps. unit_synced c.sync.result (D.disk mid) (D.disk new) (s.ok keeps) (s.err keeps)) s.time s.failures) refl
