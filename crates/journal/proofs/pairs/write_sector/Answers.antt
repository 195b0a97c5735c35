use Rattle.journal.specs.Layouts.{Spoils}
use Rattle.journal.proofs.Units.{wrote, may_only, call_left, kept, in_unit}
use Rattle.journal.proofs.Calls.{passes_by, unit_written}
use Rattle.journal.proofs.pairs.write_sector.Goals as goal

pub returns-clause-only : goal.returns-clause-only
returns-clause-only g c = λ layout keeps.
    let D = g.D.SectorDevice in
    let l = g.met.D.SectorDevice in
    let old = c.args.device.now in
    let e = D.disk c.write.new.self in
    let model = kept D l.keeps_both layout old keeps in
    may_only (Spoils layout c.args.k) (D.disk old) c.args.k (in_unit D l.keeps_both l.by_sectors l.by_pages layout old keeps c.args.k) e
    (wrote c.write.result (D.disk old) e c.args.k c.args.bytes.now (c.write.ensures.ok model) (c.write.ensures.err model))

pub returns-clause-stops : goal.returns-clause-stops
returns-clause-stops g c = λ layout keeps x since.
    let D = g.D.SectorDevice in
    let l = g.met.D.SectorDevice in
    let old = c.args.device.now in
    let e = D.disk c.write.new.self in
    let model = kept D l.keeps_both layout old keeps in
    call_left (Spoils layout c.args.k) (D.disk old) c.args.k (in_unit D l.keeps_both l.by_sectors l.by_pages layout old keeps c.args.k) e x
    (wrote c.write.result (D.disk old) e c.args.k c.args.bytes.now (c.write.ensures.ok model) (c.write.ensures.err model)) (c.write.ensures.stops x since)

pub returns-clause-passes : goal.returns-clause-passes
returns-clause-passes g c =
    let D = g.D.SectorDevice in
    let d = D.disk c.args.device.now in
    let e = D.disk c.write.new.self in
    let w = c.write.ensures in
    passes_by D c.args.device.now c.write.new.self w.sectors w.model w.units (λ keeps. unit_written c.write.result d e c.args.k c.args.bytes.now (w.ok keeps) (w.err keeps)) w.time w.failures
