use Rattle.interpreter.proofs.place.+word_end.Given as goal

abbrev pub decreases-word_end : goal.decreases-word_end
decreases-word_end l = l.count
