use Rattle.image_care.proofs.whole_copies.read_whole.Goals as goal

pub returns-in-Torn-clause-in_use : goal.returns-in-Torn-clause-in_use
returns-in-Torn-clause-in_use g c = λ is. c.read_until_whole.ensures.torn c.in-Torn.is
