use Rattle.std.proofs.Common.{◌∙◌, ◌+◌, ◌*◌, arith, refl}
use Rattle.recovery.specs.Making.{IsApart}
use Rattle.recovery.proofs.Makings.{suits_on, only_on, stops_on, carries_then, carries_well, carries_failed, only_read_none}
use Rattle.journal.proofs.Calls.{proceeds}
use Rattle.recovery.proofs.making.fill_on.Goals as goal

pub returns-in-Ok-clause-filled : goal.returns-in-Ok-clause-filled
returns-in-Ok-clause-filled g c = λ source keeps.
    let B = g.B.SectorDevice in
    let T = g.T.Target in
    let mid = c.carry_blocks.new.new in
    c.in-Ok.ensures.filled (suits_on B T.layout c.args.new.now mid c.carry_blocks.ensures.carries.passes keeps)
    (g.S.Source.bytes_in c.args.source.now (g.A.SectorDevice.disk c.args.old.now).content) (c.in_ok-carry_blocks.ensures.laid source keeps)

pub returns-in-Ok-clause-left : goal.returns-in-Ok-clause-left
returns-in-Ok-clause-left g c = λ keeps k left.
    let B = g.B.SectorDevice in
    let T = g.T.Target in
    let mid = c.carry_blocks.new.new in
    c.in-Ok.ensures.left (suits_on B T.layout c.args.new.now mid c.carry_blocks.ensures.carries.passes keeps) k left
    ∙ c.in_ok-carry_blocks.ensures.left keeps k left

pub returns-in-Ok-clause-only : goal.returns-in-Ok-clause-only
returns-in-Ok-clause-only g c =
    let B = g.B.SectorDevice in
    let by = g.T.Target.layout in
    only_on B (IsApart by) by c.args.new.now c.carry_blocks.new.new c.finish.new.device
    c.carry_blocks.ensures.carries.passes c.carry_blocks.ensures.only c.finish.ensures.lays.only

pub returns-in-Err-clause-only : goal.returns-in-Err-clause-only
returns-in-Err-clause-only g c =
    let B = g.B.SectorDevice in
    let by = g.T.Target.layout in
    only_on B (IsApart by) by c.args.new.now c.carry_blocks.new.new c.finish.new.device
    c.carry_blocks.ensures.carries.passes c.carry_blocks.ensures.only c.finish.ensures.lays.only

pub returns-in-Ok-clause-stops : goal.returns-in-Ok-clause-stops
returns-in-Ok-clause-stops g c =
    let B = g.B.SectorDevice in
    let by = g.T.Target.layout in
    let mid = c.carry_blocks.new.new in
    stops_on B (IsApart by) by c.args.new.now mid c.finish.new.device
    c.carry_blocks.ensures.carries.passes (proceeds B mid c.finish.new.device c.finish.ensures.lays.passes)
    c.carry_blocks.ensures.only c.carry_blocks.ensures.stops c.finish.ensures.lays.stops

pub returns-in-Err-clause-stops : goal.returns-in-Err-clause-stops
returns-in-Err-clause-stops g c =
    let B = g.B.SectorDevice in
    let by = g.T.Target.layout in
    let mid = c.carry_blocks.new.new in
    stops_on B (IsApart by) by c.args.new.now mid c.finish.new.device
    c.carry_blocks.ensures.carries.passes (proceeds B mid c.finish.new.device c.finish.ensures.lays.passes)
    c.carry_blocks.ensures.only c.carry_blocks.ensures.stops c.finish.ensures.lays.stops

pub returns-in-Ok-clause-carries : goal.returns-in-Ok-clause-carries
returns-in-Ok-clause-carries g c =
    let A = g.A.SectorDevice in
    let B = g.B.SectorDevice in
    let T = g.T.Target in
    let w = T.block_writes * c.args.blocks.number in
    let h = T.last_writes in
    let from = c.args.old.now in
    let read = c.carry_blocks.new.old in
    let to = c.args.new.now in
    let mid = c.carry_blocks.new.new in
    let new = c.finish.new.device in
    let lays = c.in-Ok.ensures.lays in
    carries_then A B from read read to mid new g.met.A.SectorDevice.widens g.met.B.SectorDevice.widens
    w 0 0 h 0 0 (w + h) 0 0 (omega arith) (omega arith) (omega arith)
    c.in_ok-carry_blocks.ensures.carries.well c.in_ok-carry_blocks.ensures.carries
    (carries_well A B read mid new (only_read_none A g.met.A.SectorDevice.only_now read) h 0 0 refl lays.passes lays.begins lays.reads tt)

pub returns-in-Err-clause-carries : goal.returns-in-Err-clause-carries
returns-in-Err-clause-carries g c =
    let A = g.A.SectorDevice in
    let B = g.B.SectorDevice in
    let T = g.T.Target in
    let w = T.block_writes * c.args.blocks.number in
    let h = T.last_writes in
    let from = c.args.old.now in
    let read = c.carry_blocks.new.old in
    let to = c.args.new.now in
    let mid = c.carry_blocks.new.new in
    let new = c.finish.new.device in
    let lays = c.in-Err.ensures.lays in
    carries_then A B from read read to mid new g.met.A.SectorDevice.widens g.met.B.SectorDevice.widens
    w 0 0 h 0 0 (w + h) 0 0 (omega arith) (omega arith) (omega arith)
    c.in_ok-carry_blocks.ensures.carries.well c.in_ok-carry_blocks.ensures.carries
    (carries_failed A B read mid new (only_read_none A g.met.A.SectorDevice.only_now read) h 0 0 refl lays.passes lays.begins lays.reads)
