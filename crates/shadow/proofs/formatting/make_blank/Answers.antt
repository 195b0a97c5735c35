use Rattle.std.proofs.Common.{replicate}
use Rattle.recovery.specs.Formatted.{blank_blocks}
use Rattle.shadow.proofs.Formats.{blanks_are}
use Rattle.shadow.proofs.Makings.{making_places, places_made}
use Rattle.shadow.proofs.formatting.make_blank.Goals as goal

pub returns-in-Ok-clause-ok : goal.returns-in-Ok-clause-ok
returns-in-Ok-clause-ok g c = λ keeps.
    places_made c.args.blocks.number (λ _. replicate 1024 32) _ (g.D.SectorDevice.disk c.make.new.new) (c.in-Ok.ensures.made c.new.ensures.model keeps)

pub returns-in-Ok-clause-stops : goal.returns-in-Ok-clause-stops
returns-in-Ok-clause-stops g c = λ keeps x since.
    let n = c.args.blocks.number in
    making_places n c.args.blocks.many c.args.blocks.few (λ _. replicate 1024 32) (blank_blocks n) (blanks_are n) _
    (g.D.SectorDevice.disk c.args.device.now) x (c.make.ensures.stops c.new.ensures.model keeps x since)

pub returns-in-Err-clause-stops : goal.returns-in-Err-clause-stops
returns-in-Err-clause-stops g c = λ keeps x since.
    let n = c.args.blocks.number in
    making_places n c.args.blocks.many c.args.blocks.few (λ _. replicate 1024 32) (blank_blocks n) (blanks_are n) _
    (g.D.SectorDevice.disk c.args.device.now) x (c.make.ensures.stops c.new.ensures.model keeps x since)
