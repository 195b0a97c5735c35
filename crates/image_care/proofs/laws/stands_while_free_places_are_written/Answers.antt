use Rattle.image_care.proofs.During.{stands}
use Rattle.image_care.proofs.laws.stands_while_free_places_are_written.Goals as goal

pub returns : goal.returns
returns c = λ n from to image_at free. stands image_at from to n free
