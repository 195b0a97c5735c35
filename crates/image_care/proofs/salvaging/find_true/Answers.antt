use Rattle.std.proofs.Common.{◌∙◌}
use Rattle.image_care.proofs.Salvages.{true_record}
use Rattle.image_care.proofs.salvaging.find_true.Goals as goal

pub returns-in-Ok-clause-ok : goal.returns-in-Ok-clause-ok
returns-in-Ok-clause-ok g c = λ keeps.
    c.in-Ok.ensures.ok keeps ∙ true_record c.args.blocks.number (g.D.SectorDevice.disk c.args.device.now).content (c.in-Ok.ensures.exact keeps)
