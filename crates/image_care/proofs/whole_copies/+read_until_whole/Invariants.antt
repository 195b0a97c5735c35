use Rattle.image_care.proofs.whole_copies.+read_until_whole.Given as goal

abbrev pub decreases-read_until_whole : goal.decreases-read_until_whole
decreases-read_until_whole g l = l.tries
