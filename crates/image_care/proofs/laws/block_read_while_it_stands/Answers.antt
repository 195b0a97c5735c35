use Rattle.image_care.proofs.During.{block}
use Rattle.image_care.proofs.laws.block_read_while_it_stands.Goals as goal

pub returns : goal.returns
returns c = λ n from to b image_at seen below stands read. block image_at from to seen read n stands b below
