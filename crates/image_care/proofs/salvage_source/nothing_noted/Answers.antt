use Rattle.image_care.proofs.Takings.{first_notes}
use Rattle.image_care.proofs.salvage_source.nothing_noted.Goals as goal

pub returns : goal.returns
returns c = first_notes
