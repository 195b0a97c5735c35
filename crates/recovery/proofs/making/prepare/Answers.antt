use Rattle.std.proofs.Common.{◌≡◌, ◌≢◌, ◌∙◌, ◌+◌, ◌*◌, ℕ, false, arith, refl, sym, ap, subst, IsTrue, rules}
use Rattle.sector_disk.specs.Disk.{Disk, MayLeaveEither}
use Rattle.sector_disk.proofs.Moments.{leaves_then}
use Rattle.journal.specs.Steps.{IsAsSynced}
use Rattle.journal.proofs.Calls.{passes_by, unit_synced}
use Rattle.journal.proofs.Units.{synced_or_not, sync_left}
use Rattle.journal.specs.Layouts.{label_of}
use Rattle.recovery.specs.Making.{IsApart, IsReady}
use Rattle.journal.proofs.Paging.{now_left}
use Rattle.recovery.proofs.Makings.{suits_on, suits_model, not_apart, bad_left, carries_then, carries_well, carries_failed, only_read_none}
use Rattle.recovery.proofs.making.prepare.Goals as goal

pub returns-in-Ok-clause-ready : goal.returns-in-Ok-clause-ready
returns-in-Ok-clause-ready g c = λ source keeps.
    let B = g.B.SectorDevice in
    let T = g.T.Target in
    let n = c.args.blocks.number in
    let mid = c.fill.new.new in
    let honest = suits_model B g.met.B.SectorDevice.keeps_both T.layout mid (suits_on B T.layout c.args.new.now mid c.fill.ensures.carries.passes keeps) in
    let filled = T.has_filled c.fill.new.target n (g.S.Source.bytes_in c.args.source.now (g.A.SectorDevice.disk c.args.old.now).content) in
    subst (λ (d : Disk). IsReady (label_of T.layout n) filled d) (sym (c.in-Ok.ensures.ok honest)) (record {
      filled = c.in_ok-fill.ensures.filled source keeps;
      other = λ good. (c.requires.unlabelled keeps).other (sym ((c.fill.ensures.only keeps).content 0 (not_apart T.layout)) ∙ good);
      synced = λ k. refl;
    })

pub returns-in-Ok-clause-synced : goal.returns-in-Ok-clause-synced
returns-in-Ok-clause-synced g c = λ keeps.
    let honest : IsTrue (g.B.SectorDevice.keeps_model c.fill.new.new) = subst IsTrue (sym c.fill.ensures.carries.passes.model) keeps in
    subst (λ (d : Disk). (k : ℕ) → d.unsynced k ≡ false) (sym (c.in-Ok.ensures.ok honest)) (λ k. refl)

pub returns-in-Ok-clause-left : goal.returns-in-Ok-clause-left
returns-in-Ok-clause-left g c = λ keeps k left.
    let B = g.B.SectorDevice in
    let T = g.T.Target in
    let mid = c.fill.new.new in
    let honest = suits_model B g.met.B.SectorDevice.keeps_both T.layout mid (suits_on B T.layout c.args.new.now mid c.fill.ensures.carries.passes keeps) in
    ap (λ (d : Disk). d.content k) (c.in-Ok.ensures.ok honest) ∙ c.in_ok-fill.ensures.left keeps k left

pub returns-in_err-fill-clause-stops : goal.returns-in_err-fill-clause-stops
returns-in_err-fill-clause-stops g c = λ keeps x since.
    let B = g.B.SectorDevice in
    let T = g.T.Target in
    let old = c.args.new.now in
    bad_left (label_of T.layout c.args.blocks.number) (B.disk old) T.layout
    (g.met.B.SectorDevice.present old (suits_model B g.met.B.SectorDevice.keeps_both T.layout old keeps)) (c.requires.unlabelled keeps) x
    (c.fill.ensures.stops keeps x since)

pub returns-in-Ok-clause-stops : goal.returns-in-Ok-clause-stops
returns-in-Ok-clause-stops g c = λ keeps.
    let B = g.B.SectorDevice in
    let T = g.T.Target in
    let label = label_of T.layout c.args.blocks.number in
    let old = c.args.new.now in
    let mid = c.fill.new.new in
    let new = c.sync.new.self in
    let d = B.disk old in
    let e = B.disk mid in
    let bad = bad_left label d T.layout (g.met.B.SectorDevice.present old (suits_model B g.met.B.SectorDevice.keeps_both T.layout old keeps)) (c.requires.unlabelled keeps) in
    let honest = suits_model B g.met.B.SectorDevice.keeps_both T.layout mid (suits_on B T.layout old mid c.fill.ensures.carries.passes keeps) in
    leaves_then B.time B.left_since old mid new
    (IsAsSynced (IsApart T.layout) d) (MayLeaveEither e (B.disk new)) (λ x. x 0 ≢ label)
    c.fill.ensures.carries.passes.time c.sync.ensures.time (c.fill.ensures.stops keeps) c.sync.ensures.stops
    bad
    (λ x either. bad x (now_left (IsApart T.layout) d e x (c.fill.ensures.only keeps)
    (sync_left e (B.disk new) x (g.met.B.SectorDevice.present mid honest)
    (synced_or_not c.sync.result e (B.disk new) (c.sync.ensures.ok honest) (c.sync.ensures.err honest)) either)))

pub returns-in-Err-clause-stops : goal.returns-in-Err-clause-stops
returns-in-Err-clause-stops g c = λ keeps.
    let B = g.B.SectorDevice in
    let T = g.T.Target in
    let label = label_of T.layout c.args.blocks.number in
    let old = c.args.new.now in
    let mid = c.fill.new.new in
    let new = c.sync.new.self in
    let d = B.disk old in
    let e = B.disk mid in
    let bad = bad_left label d T.layout (g.met.B.SectorDevice.present old (suits_model B g.met.B.SectorDevice.keeps_both T.layout old keeps)) (c.requires.unlabelled keeps) in
    let honest = suits_model B g.met.B.SectorDevice.keeps_both T.layout mid (suits_on B T.layout old mid c.fill.ensures.carries.passes keeps) in
    leaves_then B.time B.left_since old mid new
    (IsAsSynced (IsApart T.layout) d) (MayLeaveEither e (B.disk new)) (λ x. x 0 ≢ label)
    c.fill.ensures.carries.passes.time c.sync.ensures.time (c.fill.ensures.stops keeps) c.sync.ensures.stops
    bad
    (λ x either. bad x (now_left (IsApart T.layout) d e x (c.fill.ensures.only keeps)
    (sync_left e (B.disk new) x (g.met.B.SectorDevice.present mid honest)
    (synced_or_not c.sync.result e (B.disk new) (c.sync.ensures.ok honest) (c.sync.ensures.err honest)) either)))

pub returns-in-Ok-clause-carries : goal.returns-in-Ok-clause-carries
returns-in-Ok-clause-carries g c =
    let A = g.A.SectorDevice in
    let B = g.B.SectorDevice in
    let T = g.T.Target in
    let w = T.block_writes * c.args.blocks.number + T.first_writes + T.last_writes in
    let read = c.fill.new.old in
    let mid = c.fill.new.new in
    let new = c.sync.new.self in
    let s = c.sync.ensures in
    carries_then A B c.args.old.now read read c.args.new.now mid new g.met.A.SectorDevice.widens g.met.B.SectorDevice.widens
    w 0 0 0 1 0 w 1 0 (omega arith) (omega arith) (omega arith)
    c.in_ok-fill.ensures.carries.well c.in_ok-fill.ensures.carries
    (carries_well A B read mid new (only_read_none A g.met.A.SectorDevice.only_now read) 0 1 0 refl
    (passes_by B mid new s.sectors s.model s.units (λ keeps. unit_synced c.sync.result (B.disk mid) (B.disk new) (s.ok keeps) (s.err keeps)) s.time c.in-Ok.ensures.failures)
    (record { few_writes = omega (arith, ap (λ k. k.writes) s.counts); few_syncs = search rules })
    (search rules) tt)

pub returns-in-Err-clause-carries : goal.returns-in-Err-clause-carries
returns-in-Err-clause-carries g c =
    let A = g.A.SectorDevice in
    let B = g.B.SectorDevice in
    let T = g.T.Target in
    let w = T.block_writes * c.args.blocks.number + T.first_writes + T.last_writes in
    let read = c.fill.new.old in
    let mid = c.fill.new.new in
    let new = c.sync.new.self in
    let s = c.sync.ensures in
    carries_then A B c.args.old.now read read c.args.new.now mid new g.met.A.SectorDevice.widens g.met.B.SectorDevice.widens
    w 0 0 0 1 0 w 1 0 (omega arith) (omega arith) (omega arith)
    c.in_ok-fill.ensures.carries.well c.in_ok-fill.ensures.carries
    (carries_failed A B read mid new (only_read_none A g.met.A.SectorDevice.only_now read) 0 1 0 refl
    (passes_by B mid new s.sectors s.model s.units (λ keeps. unit_synced c.sync.result (B.disk mid) (B.disk new) (s.ok keeps) (s.err keeps)) s.time c.in-Err.ensures.failures)
    (record { few_writes = omega (arith, ap (λ k. k.writes) s.counts); few_syncs = search rules })
    (search rules))
