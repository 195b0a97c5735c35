use Rattle.std.proofs.Common.{◌∙◌, sym}
use Rattle.image_care.proofs.laws.overtaken.Goals as goal

pub returns : goal.returns
returns c = λ n seen moment read true_then tells. tells (sym read.sum ∙ true_then.sum)
