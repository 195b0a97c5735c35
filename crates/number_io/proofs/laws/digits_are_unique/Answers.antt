use Rattle.number_io.proofs.Writings.{is_digits_of}
use Rattle.number_io.proofs.laws.digits_are_unique.Goals as goal

pub returns : goal.returns
returns c = is_digits_of
