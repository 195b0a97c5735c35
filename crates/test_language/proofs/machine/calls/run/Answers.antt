use Rattle.test_language.proofs.Callees.{laid, ready, asked_ready}
use Rattle.test_language.proofs.machine.calls.run.Goals as goal

pub resume_calling-first-requires : goal.resume_calling-first-requires
resume_calling-first-requires c =
    let r = c.requires in
    let cells = laid c.args.code.now r.constant r.part r.end r.one_more r.part_end r.outside r.body r.outer_end r.itself r.itself_end r.own_part r.own_part_end in
    record { ready = ready c.args.code.now cells c.args.word _ _ _ _ _ _ _ _ c.new-machine.ensures c.new-returns.ensures (c.in-Ok.ensures.entered c.args.code.now) }

pub resume_calling-last-requires : goal.resume_calling-last-requires
resume_calling-last-requires c =
    let r = c.requires in
    let cells = laid c.args.code.now r.constant r.part r.end r.one_more r.part_end r.outside r.body r.outer_end r.itself r.itself_end r.own_part r.own_part_end in
    let first = ready c.args.code.now cells c.args.word _ _ _ _ _ _ _ _ c.new-machine.ensures c.new-returns.ensures (c.in-Ok.ensures.entered c.args.code.now) in
    record { ready = asked_ready _ _ _ _ _ _ _ _ _ _ _ _ c.in-Service.is first c.resume_calling-first.ensures.resumed }
