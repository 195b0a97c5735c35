use Rattle.std.proofs.Common.{refl}
use Rattle.journal.proofs.Calls.{passes_err, passes_then}
use Rattle.journal.proofs.homes.copy_home.Goals as goal

pub returns-in_err-copy_sector-clause-passes : goal.returns-in_err-copy_sector-clause-passes
returns-in_err-copy_sector-clause-passes g c =
    passes_err g.D.SectorDevice c.args.device.now c.copy_sector.new.device c.in_err-copy_sector.ensures.passes refl c.from_residual.ensures.0

pub returns-clause-passes : goal.returns-clause-passes
returns-clause-passes g c =
    passes_then g.D.SectorDevice c.args.device.now c.copy_sector.new.device c.copy_sector-2.new.device g.met.D.SectorDevice.widens
    c.in_ok-copy_sector.ensures.passes c.copy_sector-2.ensures.passes refl
