use Rattle.recovery.proofs.Makings.{sealed}
use Rattle.recovery.proofs.making.seal.Goals as goal

pub returns-clause-stops : goal.returns-clause-stops
returns-clause-stops g c = λ keeps x since.
    sealed c.args.label.now (g.D.SectorDevice.disk c.args.device.now) (g.met.D.SectorDevice.present c.args.device.now keeps) (c.requires.synced keeps) x
    (c.write_label.ensures.stops keeps x since)
