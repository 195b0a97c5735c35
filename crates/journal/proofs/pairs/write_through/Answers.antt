use Rattle.std.proofs.Common.{refl}
use Rattle.sector_disk.proofs.Moments.{leaves_then}
use Rattle.journal.proofs.Calls.{passes_then, passes_by, unit_synced}
use Rattle.journal.proofs.Units.{synced_or_not, sync_left, kept, asks_on}
use Rattle.journal.specs.Layouts.{Spoils}
use Rattle.journal.specs.Steps.{IsAsSynced}
use Rattle.journal.proofs.Paging.{now_left}
use Rattle.journal.proofs.pairs.write_through.Goals as goal

pub returns-clause-stops : goal.returns-clause-stops
returns-clause-stops g c = λ layout keeps.
    let D = g.D.SectorDevice in
    let both = g.met.D.SectorDevice.keeps_both in
    let old = c.args.device.now in
    let mid = c.write_sector.new.device in
    let new = c.sync.new.self in
    let first = c.write_sector.ensures in
    let honest = kept D both layout mid (asks_on D both layout old mid first.passes.model first.passes.units keeps) in
    leaves_then D.time D.left_since old mid new
    _ _ (IsAsSynced (Spoils layout c.args.k) (D.disk old))
    first.passes.time c.sync.ensures.time (first.stops layout keeps) c.sync.ensures.stops
    (λ x is. is)
    (λ x either. now_left (Spoils layout c.args.k) (D.disk old) (D.disk mid) x (first.only layout keeps)
    (sync_left (D.disk mid) (D.disk new) x (g.met.D.SectorDevice.present mid honest)
    (synced_or_not c.sync.result (D.disk mid) (D.disk new) (c.sync.ensures.ok honest) (c.sync.ensures.err honest)) either))

pub returns-clause-passes : goal.returns-clause-passes
returns-clause-passes g c =
    let D = g.D.SectorDevice in
    let mid = c.write_sector.new.device in
    let new = c.sync.new.self in
    let s = c.sync.ensures in
    passes_then D c.args.device.now mid new g.met.D.SectorDevice.widens c.in_ok-write_sector.ensures.passes
    (passes_by D mid new s.sectors s.model s.units (λ keeps. unit_synced c.sync.result (D.disk mid) (D.disk new) (s.ok keeps) (s.err keeps)) s.time s.failures) refl
