use Rattle.std.proofs.Common.{◌∙◌, ◌+◌, ◌*◌, arith, refl}
use Rattle.std.proofs.lemmas.Result.{on_ok_weaker}
use Rattle.journal.proofs.Calls.{proceeds}
use Rattle.recovery.specs.Making.{IsApart}
use Rattle.recovery.proofs.Makings.{suits_on, suits_before, only_on, stops_on, carries_then, carries_well, carries_failed, only_read_none}
use Rattle.recovery.proofs.making.fill.Goals as goal

pub fill_on-requires-clause-begun : goal.fill_on-requires-clause-begun
fill_on-requires-clause-begun g c = λ keeps.
    let B = g.B.SectorDevice in
    let by = g.T.Target.layout in
    let old = c.args.new.now in
    let mid = c.begin.new.device in
    c.in-Ok.ensures.begun (suits_before B by old mid (proceeds B old mid c.begin.ensures.lays.passes) keeps)

pub returns-in-Ok-clause-filled : goal.returns-in-Ok-clause-filled
returns-in-Ok-clause-filled g c = λ source keeps.
    let B = g.B.SectorDevice in
    let old = c.args.new.now in
    let mid = c.begin.new.device in
    c.fill_on.ensures.filled source (suits_on B g.T.Target.layout old mid (proceeds B old mid c.begin.ensures.lays.passes) keeps)

pub returns-in-Ok-clause-left : goal.returns-in-Ok-clause-left
returns-in-Ok-clause-left g c = λ keeps.
    let B = g.B.SectorDevice in
    let old = c.args.new.now in
    let mid = c.begin.new.device in
    on_ok_weaker c.fill_on.result (λ same k left. same k left ∙ c.in-Ok.ensures.left keeps k left)
    (c.fill_on.ensures.left (suits_on B g.T.Target.layout old mid (proceeds B old mid c.begin.ensures.lays.passes) keeps))

pub returns-in-Ok-clause-only : goal.returns-in-Ok-clause-only
returns-in-Ok-clause-only g c =
    let B = g.B.SectorDevice in
    let by = g.T.Target.layout in
    let old = c.args.new.now in
    let mid = c.begin.new.device in
    only_on B (IsApart by) by old mid c.fill_on.new.new (proceeds B old mid c.begin.ensures.lays.passes) c.begin.ensures.lays.only c.fill_on.ensures.only

pub returns-in-Err-clause-only : goal.returns-in-Err-clause-only
returns-in-Err-clause-only g c = c.begin.ensures.lays.only

pub returns-in-Ok-clause-stops : goal.returns-in-Ok-clause-stops
returns-in-Ok-clause-stops g c =
    let B = g.B.SectorDevice in
    let by = g.T.Target.layout in
    let old = c.args.new.now in
    let mid = c.begin.new.device in
    stops_on B (IsApart by) by old mid c.fill_on.new.new (proceeds B old mid c.begin.ensures.lays.passes) c.fill_on.ensures.carries.passes
    c.begin.ensures.lays.only c.begin.ensures.lays.stops c.fill_on.ensures.stops

pub returns-in-Err-clause-stops : goal.returns-in-Err-clause-stops
returns-in-Err-clause-stops g c = c.begin.ensures.lays.stops

pub returns-in-Ok-clause-carries : goal.returns-in-Ok-clause-carries
returns-in-Ok-clause-carries g c =
    let A = g.A.SectorDevice in
    let B = g.B.SectorDevice in
    let T = g.T.Target in
    let f = T.first_writes in
    let w = T.block_writes * c.args.blocks.number in
    let from = c.args.old.now in
    let lays = c.in-Ok.ensures.lays in
    carries_then A B from from c.fill_on.new.old c.args.new.now c.begin.new.device c.fill_on.new.new g.met.A.SectorDevice.widens g.met.B.SectorDevice.widens
    f 0 0 (w + T.last_writes) 0 0 (w + f + T.last_writes) 0 0 (omega arith) (omega arith) (omega arith)
    (refl, lays.passes.failures.stays refl)
    (carries_well A B from c.args.new.now c.begin.new.device (only_read_none A g.met.A.SectorDevice.only_now from) f 0 0 refl
    lays.passes lays.begins lays.reads (tt {0}))
    c.fill_on.ensures.carries

pub returns-in-Err-clause-carries : goal.returns-in-Err-clause-carries
returns-in-Err-clause-carries g c =
    let A = g.A.SectorDevice in
    let B = g.B.SectorDevice in
    let T = g.T.Target in
    let lays = c.in-Err.ensures.lays in
    carries_failed A B c.args.old.now c.args.new.now c.begin.new.device (only_read_none A g.met.A.SectorDevice.only_now c.args.old.now)
    (T.block_writes * c.args.blocks.number + T.first_writes + T.last_writes) 0 0 refl lays.passes
    (record { few_writes = omega (arith, lays.begins.few_writes); few_syncs = lays.begins.few_syncs }) lays.reads
