use Rattle.std.proofs.Common.{◌≡◌}
use Rattle.std.specs.Prelude.{length}
use Rattle.hosted.specs.Refusals.{save_refusal}
use Rattle.hosted.specs.declared.refusal.Refusal.TheVariants.{Device}
use Rattle.hosted.proofs.Numbers.{when_other, wrong_told}
use Rattle.hosted.proofs.promises.save_over.Goals as goal

pub returns-clause-arguments : goal.returns-clause-arguments
returns-clause-arguments g c =
    wrong_told c.save_blocks.result c.told.result.0 c.args.device c.told.result.1
    (save_refusal (g.D.SectorDevice.sector_count c.args.device) c.args.blocks.now (length c.args.bytes.now)) c.told.ensures.number c.told.ensures.device
    c.save_blocks.ensures.arguments

pub returns-clause-content : goal.returns-clause-content
returns-clause-content g c = λ keeps.
    let D = g.D.SectorDevice in
    when_other c.save_blocks.result c.told.result.0 c.told.result.1 (λ d. (D.disk d).content ≡ (D.disk c.args.device).content) c.told.ensures.number c.told.ensures.device
    Device (c.save_blocks.ensures.content keeps)
