use Rattle.journal.proofs.Calls.{passes_by, proceeds, proceeds_then, unit_read}
use Rattle.recovery.proofs.recovering.read_record.Goals as goal

pub returns-then-branch-clause-passes : goal.returns-then-branch-clause-passes
returns-then-branch-clause-passes g c =
    let D = g.D.SectorDevice in
    let read = c.read.ensures in
    proceeds_then D c.args.device.now c.read.new.self c.is_true_record.new.device g.met.D.SectorDevice.widens
    (proceeds D c.args.device.now c.read.new.self (passes_by D c.args.device.now c.read.new.self read.sectors read.model read.units (λ keeps. unit_read _ _ (read.disk keeps)) read.time read.failures))
    (proceeds D c.read.new.self c.is_true_record.new.device c.is_true_record.ensures.reads.passes)

pub returns-else-branch-clause-passes : goal.returns-else-branch-clause-passes
returns-else-branch-clause-passes g c =
    let D = g.D.SectorDevice in
    let read = c.read.ensures in
    proceeds_then D c.args.device.now c.read.new.self c.is_true_record.new.device g.met.D.SectorDevice.widens
    (proceeds D c.args.device.now c.read.new.self (passes_by D c.args.device.now c.read.new.self read.sectors read.model read.units (λ keeps. unit_read _ _ (read.disk keeps)) read.time read.failures))
    (proceeds D c.read.new.self c.is_true_record.new.device c.is_true_record.ensures.reads.passes)

pub returns-in_err-is_true_record-clause-passes : goal.returns-in_err-is_true_record-clause-passes
returns-in_err-is_true_record-clause-passes g c =
    let D = g.D.SectorDevice in
    let read = c.read.ensures in
    proceeds_then D c.args.device.now c.read.new.self c.is_true_record.new.device g.met.D.SectorDevice.widens
    (proceeds D c.args.device.now c.read.new.self (passes_by D c.args.device.now c.read.new.self read.sectors read.model read.units (λ keeps. unit_read _ _ (read.disk keeps)) read.time read.failures))
    (proceeds D c.read.new.self c.is_true_record.new.device c.is_true_record.ensures.reads.passes)
