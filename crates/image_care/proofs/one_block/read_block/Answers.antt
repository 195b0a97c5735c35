use Rattle.journal.proofs.Calls.{proceeds_then}
use Rattle.image_care.proofs.one_block.read_block.Goals as goal

pub returns-clause-passes : goal.returns-clause-passes
returns-clause-passes g c =
    proceeds_then g.D.SectorDevice c.args.device.now c.look.new.device c.take_block.new.device g.met.D.SectorDevice.widens
    c.look.ensures.passes c.take_block.ensures.passes
