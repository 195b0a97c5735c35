use Rattle.std.proofs.Common.{refl}
use Rattle.journal.proofs.Calls.{passes_then, passes_by, unit_read, unit_synced}
use Rattle.recovery.proofs.settling.settle.Goals as goal

pub returns-clause-passes : goal.returns-clause-passes
returns-clause-passes g c =
    let D = g.D.SectorDevice in
    let old = c.args.device.now in
    let mid = c.sync.new.self in
    let s = c.sync.ensures in
    let r = c.read.ensures in
    passes_then D old mid c.read.new.self g.met.D.SectorDevice.widens
    (passes_by D old mid s.sectors s.model s.units (λ keeps. unit_synced c.sync.result (D.disk old) (D.disk mid) (s.ok keeps) (s.err keeps)) s.time c.in_ok-sync.ensures.failures)
    (passes_by D mid c.read.new.self r.sectors r.model r.units (λ keeps. unit_read _ _ (r.disk keeps)) r.time r.failures) refl
