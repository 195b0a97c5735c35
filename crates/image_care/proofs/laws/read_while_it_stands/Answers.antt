use Rattle.image_care.proofs.During.{blocks}
use Rattle.image_care.proofs.laws.read_while_it_stands.Goals as goal

pub returns : goal.returns
returns c = λ n from to image_at seen stands read. blocks image_at from to seen read n stands
