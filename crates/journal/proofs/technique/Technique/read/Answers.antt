use Rattle.std.proofs.Common.{◌≡◌, ◌∙◌, ap, subst}
use Rattle.std.specs.Prelude.{OnOk}
use Rattle.journal.specs.Images.{pair_at}
use Rattle.journal.proofs.Suited.{stays, suits_keeps}
use Rattle.journal.proofs.Techniques.{latest_there}
use Rattle.journal.proofs.technique.Technique.read.Goals as goal

pub returns-clause-bytes : goal.returns-clause-bytes
returns-clause-bytes g c = λ keeps.
    let D = g.D.SectorDevice in
    let image = (D.disk c.args.device.now).content in
    subst (λ xs. OnOk c.read_pair.result (c.read_pair.new.out ≡ xs))
    (ap (pair_at image) c.latest_sector-k.ensures.place ∙ latest_there c.args.self.now c.args.blocks.number c.args.pending.now image c.args.b)
    (c.read_pair.ensures.bytes (suits_keeps D g.met.D.SectorDevice.keeps_both c.args.device.now keeps))

pub returns-clause-disk : goal.returns-clause-disk
returns-clause-disk g c = λ keeps. c.read_pair.ensures.reads.disk (suits_keeps g.D.SectorDevice g.met.D.SectorDevice.keeps_both c.args.device.now keeps)

pub returns-clause-stops : goal.returns-clause-stops
returns-clause-stops g c = λ keeps. c.read_pair.ensures.reads.stops (suits_keeps g.D.SectorDevice g.met.D.SectorDevice.keeps_both c.args.device.now keeps)

pub returns-clause-suits : goal.returns-clause-suits
returns-clause-suits g c =
    let passes = c.read_pair.ensures.reads.passes in
    stays g.D.SectorDevice c.args.device.now c.read_pair.new.device passes.sectors passes.model passes.units
