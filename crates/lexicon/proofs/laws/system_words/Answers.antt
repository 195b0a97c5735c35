use Rattle.lexicon.proofs.SystemWords.{system_words_look}
use Rattle.lexicon.proofs.laws.system_words.Goals as goal

pub returns : goal.returns
returns c = system_words_look
