use Rattle.std.proofs.Common.{◌≡◌}
use Rattle.hosted.specs.declared.refusal.Refusal.TheVariants.{Device}
use Rattle.hosted.proofs.Numbers.{when_other}
use Rattle.hosted.proofs.promises.recover_over.Goals as goal

pub returns-clause-content : goal.returns-clause-content
returns-clause-content g c = λ keeps.
    let D = g.D.SectorDevice in
    when_other c.recover.result c.told.result.0 c.told.result.1 (λ d. (D.disk d).content ≡ (D.disk c.args.device).content) c.told.ensures.number c.told.ensures.device
    Device (c.recover.ensures.content keeps)
