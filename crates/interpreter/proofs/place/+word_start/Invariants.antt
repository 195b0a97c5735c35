use Rattle.interpreter.proofs.place.+word_start.Given as goal

abbrev pub decreases-word_start : goal.decreases-word_start
decreases-word_start l = l.end
