use Rattle.std.proofs.Common.{◌≡◌, ◌∙◌, inl, inr, ⊎_elim, None, true, sym, subst, IsTrue}
use Rattle.std.specs.Prelude.{◌==◌}
use Rattle.sector_disk.specs.Disk.{Disk, MayLeave, MayLeaveEither}
use Rattle.sector_disk.proofs.Moments.{leaves_then}
use Rattle.journal.specs.Chain.{MayRedo}
use Rattle.journal.specs.Images.{is_true_record}
use Rattle.journal.specs.Layout.{gate_open}
use Rattle.journal.proofs.Calls.{passes_by, proceeds, proceeds_then, unit_read}
use Rattle.recovery.specs.Recovered.{damage_refusal_by, has_good_record, FinishLeaves}
use Rattle.recovery.proofs.Recoveries.{good_record}
use Rattle.recovery.proofs.recovering.finish.Goals as goal

pub returns-in-Ok-clause-stops : goal.returns-in-Ok-clause-stops
returns-in-Ok-clause-stops g c = λ keeps.
    let D = g.D.SectorDevice in
    let both = g.met.D.SectorDevice.keeps_both in
    let version = c.args.version in
    let n = c.args.blocks.number in
    let old = c.args.device.now in
    let read = c.read.new.self in
    let known = c.read_record.new.device in
    let d = D.disk old in
    let model = both old keeps in
    let keeps_read : IsTrue (D.keeps_sectors read) = subst IsTrue (sym c.read.ensures.units) keeps in
    let keeps_known : IsTrue (D.keeps_sectors known) = subst IsTrue (sym c.read_record.ensures.passes.units) keeps_read in
    let same : D.disk read ≡ d = c.read.ensures.disk model in
    let still : D.disk known ≡ d = c.read_record.ensures.disk (both read keeps_read) ∙ same in
    let good = subst (λ (e : Disk). has_good_record version n e.content ≡ true) same (c.in_ok-read_record.ensures.exact (both read keeps_read)) in
    let none : damage_refusal_by version n d.content ≡ None =
    good_record (version == 1) (gate_open (d.content 1)) (is_true_record n (d.content 2) d.content) good in
    let first = proceeds_then D old read known g.met.D.SectorDevice.widens
    (proceeds D old read (passes_by D old read c.read.ensures.sectors c.read.ensures.model c.read.ensures.units (λ keeps. unit_read _ _ (c.read.ensures.disk keeps)) c.read.ensures.time c.read.ensures.failures))
    c.read_record.ensures.passes in
    leaves_then D.time D.left_since old known c.apply.new.device
    (MayLeave d) (MayRedo n (D.disk known).content) (FinishLeaves version n d.content)
    first.time c.apply.ensures.passes.time
    (leaves_then D.time D.left_since old read known (MayLeaveEither d (D.disk read)) (MayLeave (D.disk read)) (MayLeave d)
    c.read.ensures.time c.read_record.ensures.passes.time c.read.ensures.stops (c.read_record.ensures.stops (both read keeps_read))
    (λ x either. ⊎_elim (λ may. may) (λ may. subst (λ (e : Disk). MayLeave e x) same may) either)
    (λ x may. subst (λ (e : Disk). MayLeave e x) same may))
    (c.apply.ensures.stops keeps_known)
    (λ x may. inl (λ k. may k (c.requires.synced keeps k) ∙ sym (g.met.D.SectorDevice.present old model k (c.requires.synced keeps k))))
    (λ x redo. ⊎_elim (λ is. inl is) (λ again. inr (none, again)) (subst (λ (e : Disk). MayRedo n e.content x) still redo))

pub returns-in-Ok-clause-passes : goal.returns-in-Ok-clause-passes
returns-in-Ok-clause-passes g c =
    let D = g.D.SectorDevice in
    let old = c.args.device.now in
    let read = c.read.new.self in
    let known = c.read_record.new.device in
    let r = c.read.ensures in
    proceeds_then D old known c.apply.new.device g.met.D.SectorDevice.widens
    (proceeds_then D old read known g.met.D.SectorDevice.widens (proceeds D old read (passes_by D old read r.sectors r.model r.units (λ keeps. unit_read _ _ (r.disk keeps)) r.time r.failures)) c.read_record.ensures.passes)
    (proceeds D known c.apply.new.device c.apply.ensures.passes)

pub returns-in-Err-clause-stops : goal.returns-in-Err-clause-stops
returns-in-Err-clause-stops g c = λ keeps.
    let D = g.D.SectorDevice in
    let both = g.met.D.SectorDevice.keeps_both in
    let version = c.args.version in
    let n = c.args.blocks.number in
    let old = c.args.device.now in
    let read = c.read.new.self in
    let known = c.read_record.new.device in
    let d = D.disk old in
    let model = both old keeps in
    let keeps_read : IsTrue (D.keeps_sectors read) = subst IsTrue (sym c.read.ensures.units) keeps in
    let keeps_known : IsTrue (D.keeps_sectors known) = subst IsTrue (sym c.read_record.ensures.passes.units) keeps_read in
    let same : D.disk read ≡ d = c.read.ensures.disk model in
    let still : D.disk known ≡ d = c.read_record.ensures.disk (both read keeps_read) ∙ same in
    let good = subst (λ (e : Disk). has_good_record version n e.content ≡ true) same (c.in_ok-read_record.ensures.exact (both read keeps_read)) in
    let none : damage_refusal_by version n d.content ≡ None =
    good_record (version == 1) (gate_open (d.content 1)) (is_true_record n (d.content 2) d.content) good in
    let first = proceeds_then D old read known g.met.D.SectorDevice.widens
    (proceeds D old read (passes_by D old read c.read.ensures.sectors c.read.ensures.model c.read.ensures.units (λ keeps. unit_read _ _ (c.read.ensures.disk keeps)) c.read.ensures.time c.read.ensures.failures))
    c.read_record.ensures.passes in
    leaves_then D.time D.left_since old known c.apply.new.device
    (MayLeave d) (MayRedo n (D.disk known).content) (FinishLeaves version n d.content)
    first.time c.apply.ensures.passes.time
    (leaves_then D.time D.left_since old read known (MayLeaveEither d (D.disk read)) (MayLeave (D.disk read)) (MayLeave d)
    c.read.ensures.time c.read_record.ensures.passes.time c.read.ensures.stops (c.read_record.ensures.stops (both read keeps_read))
    (λ x either. ⊎_elim (λ may. may) (λ may. subst (λ (e : Disk). MayLeave e x) same may) either)
    (λ x may. subst (λ (e : Disk). MayLeave e x) same may))
    (c.apply.ensures.stops keeps_known)
    (λ x may. inl (λ k. may k (c.requires.synced keeps k) ∙ sym (g.met.D.SectorDevice.present old model k (c.requires.synced keeps k))))
    (λ x redo. ⊎_elim (λ is. inl is) (λ again. inr (none, again)) (subst (λ (e : Disk). MayRedo n e.content x) still redo))

pub returns-in-Err-clause-passes : goal.returns-in-Err-clause-passes
returns-in-Err-clause-passes g c =
    let D = g.D.SectorDevice in
    let old = c.args.device.now in
    let read = c.read.new.self in
    let known = c.read_record.new.device in
    let r = c.read.ensures in
    proceeds_then D old known c.apply.new.device g.met.D.SectorDevice.widens
    (proceeds_then D old read known g.met.D.SectorDevice.widens (proceeds D old read (passes_by D old read r.sectors r.model r.units (λ keeps. unit_read _ _ (r.disk keeps)) r.time r.failures)) c.read_record.ensures.passes)
    (proceeds D known c.apply.new.device c.apply.ensures.passes)

pub returns-in_err-read_record-clause-passes : goal.returns-in_err-read_record-clause-passes
returns-in_err-read_record-clause-passes g c =
    let D = g.D.SectorDevice in
    let old = c.args.device.now in
    let read = c.read.new.self in
    let r = c.read.ensures in
    proceeds_then D old read c.read_record.new.device g.met.D.SectorDevice.widens
    (proceeds D old read (passes_by D old read r.sectors r.model r.units (λ keeps. unit_read _ _ (r.disk keeps)) r.time r.failures)) c.read_record.ensures.passes

pub returns-in_err-read_record-clause-stops : goal.returns-in_err-read_record-clause-stops
returns-in_err-read_record-clause-stops g c =
    λ keeps.
    let D = g.D.SectorDevice in
    let both = g.met.D.SectorDevice.keeps_both in
    let version = c.args.version in
    let n = c.args.blocks.number in
    let old = c.args.device.now in
    let read = c.read.new.self in
    let d = D.disk old in
    let model = both old keeps in
    let keeps_read : IsTrue (D.keeps_sectors read) = subst IsTrue (sym c.read.ensures.units) keeps in
    let same : D.disk read ≡ d = c.read.ensures.disk model in
    leaves_then D.time D.left_since old read c.read_record.new.device
    (MayLeaveEither d (D.disk read)) (MayLeave (D.disk read)) (FinishLeaves version n d.content)
    c.read.ensures.time c.read_record.ensures.passes.time c.read.ensures.stops (c.read_record.ensures.stops (both read keeps_read))
    (λ x either. inl (λ k. ⊎_elim (λ may. may) (λ may. subst (λ (e : Disk). MayLeave e x) same may) either k (c.requires.synced keeps k) ∙ sym (g.met.D.SectorDevice.present old model k (c.requires.synced keeps k))))
    (λ x may. inl (λ k. subst (λ (e : Disk). MayLeave e x) same may k (c.requires.synced keeps k) ∙ sym (g.met.D.SectorDevice.present old model k (c.requires.synced keeps k))))
