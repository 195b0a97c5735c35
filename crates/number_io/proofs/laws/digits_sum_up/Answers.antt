use Rattle.number_io.proofs.Dividing.{written}
use Rattle.number_io.proofs.laws.digits_sum_up.Goals as goal

pub returns : goal.returns
returns c = λ base n h. written base n h
