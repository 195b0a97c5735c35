use Rattle.std.proofs.Common.{replicate}
use Rattle.recovery.specs.Formatted.{blank_blocks}
use Rattle.recovery.proofs.HomesMade.{blanks_are, blank_made, making_homes}
use Rattle.recovery.proofs.formatting.make_blank.Goals as goal

pub returns-in-Ok-clause-ok : goal.returns-in-Ok-clause-ok
returns-in-Ok-clause-ok g c = λ keeps. blank_made c.args.blocks.number (g.D.SectorDevice.disk c.make.new.new) (c.in-Ok.ensures.made c.new.ensures.model keeps)

pub returns-in-Ok-clause-slots : goal.returns-in-Ok-clause-slots
returns-in-Ok-clause-slots g c = λ keeps k high low. c.in-Ok.ensures.left keeps k (high, low)

pub returns-in-Ok-clause-stops : goal.returns-in-Ok-clause-stops
returns-in-Ok-clause-stops g c = λ keeps x since.
    let old = c.args.device.now in
    let n = c.args.blocks.number in
    making_homes n c.args.blocks.many c.args.blocks.few (λ _. replicate 1024 32) (blank_blocks n) (blanks_are n) (g.D.SectorDevice.disk old)
    (λ k. g.met.D.SectorDevice.by_sectors old k keeps) x (c.make.ensures.stops c.new.ensures.model keeps x since)

pub returns-in-Err-clause-stops : goal.returns-in-Err-clause-stops
returns-in-Err-clause-stops g c = λ keeps x since.
    let old = c.args.device.now in
    let n = c.args.blocks.number in
    making_homes n c.args.blocks.many c.args.blocks.few (λ _. replicate 1024 32) (blank_blocks n) (blanks_are n) (g.D.SectorDevice.disk old)
    (λ k. g.met.D.SectorDevice.by_sectors old k keeps) x (c.make.ensures.stops c.new.ensures.model keeps x since)
