use Rattle.number_io.proofs.Taken.{word_is_taken}
use Rattle.number_io.proofs.laws.words_cut_texts.Goals as goal

pub returns : goal.returns
returns c = word_is_taken
