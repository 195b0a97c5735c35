use Rattle.number_io.proofs.Taken.{text_is_taken}
use Rattle.number_io.proofs.laws.texts_cut_texts.Goals as goal

pub returns : goal.returns
returns c = text_is_taken
