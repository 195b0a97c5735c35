use Rattle.std.proofs.Common.{◌∙◌}
use Rattle.image_care.specs.Taken.{stands_by}
use Rattle.image_care.proofs.Takings.{noted}
use Rattle.image_care.proofs.salvage_source.TakenBlocksSource.fetch.Goals as goal

pub returns-clause-noted : goal.returns-clause-noted
returns-clause-noted g c = λ source first has.
    let image = (g.A.SectorDevice.disk c.args.device.now).content in
    let old = c.args.self.now.taken in
    let new = c.note.new.taken in (
      has.0,
      noted c.args.b c.in_ok-standing.standing (stands_by first.view image) old.others old.lost new.others new.lost
          (c.in_ok-standing.ensures.standing source ∙ (λ t. stands_by (has.0 t) image c.args.b)) has.1
          c.note.ensures.other c.note.ensures.others c.note.ensures.nowhere c.note.ensures.lost,
    )
