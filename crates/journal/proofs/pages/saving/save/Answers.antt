use Rattle.std.proofs.lemmas.Result.{on_ok_weaker}
use Rattle.journal.proofs.Saves.{saved, turning_means}
use Rattle.journal.proofs.pages.saving.save.Goals as goal

pub returns-clause-ok : goal.returns-clause-ok
returns-clause-ok g c = λ keeps.
    let D = g.D.SectorDevice in
    let ready = c.next_record.ensures in
    on_ok_weaker c.turn.result
    (λ is. saved c.args.blocks c.args.is_open c.args.listing.now c.args.pending.now c.next_record.result c.args.sum.now (D.disk c.args.device.now)
    (c.requires.sound keeps) (c.requires.spilled keeps) ready.bits ready.sum (D.disk c.turn.new.device) is)
    (c.turn.ensures.ok keeps)

pub returns-clause-stops : goal.returns-clause-stops
returns-clause-stops g c = λ keeps x since.
    let D = g.D.SectorDevice in
    let ready = c.next_record.ensures in
    turning_means c.args.blocks c.args.is_open c.args.listing.now c.args.pending.now c.next_record.result c.args.sum.now (D.disk c.args.device.now)
    (c.requires.sound keeps) (c.requires.spilled keeps) ready.bits ready.sum (g.met.D.SectorDevice.present c.args.device.now keeps) x
    (c.turn.ensures.stops keeps x since)
