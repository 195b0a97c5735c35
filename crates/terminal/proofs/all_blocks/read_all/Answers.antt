use Rattle.stores.specs.Opened.{image_refusal}
use Rattle.terminal.proofs.AllRead.{told_reading}
use Rattle.terminal.proofs.all_blocks.read_all.Goals as goal

pub returns-clause-exact : goal.returns-clause-exact
returns-clause-exact g c = λ keeps.
    let sectors = g.D.SectorDevice.sector_count c.args.device.now in
    let image = (g.D.SectorDevice.disk c.args.device.now).content in
    told_reading c.read_blocks.result c.given.result (image_refusal sectors image) c.given.ensures (c.read_blocks.ensures.exact keeps)
