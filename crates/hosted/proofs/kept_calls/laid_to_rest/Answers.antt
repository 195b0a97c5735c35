use Rattle.hosted.proofs.kept_calls.laid_to_rest.Goals as goal

pub returns-clause-rests : goal.returns-clause-rests
returns-clause-rests g c = (c.adopt.result, c.rested.ensures.rests)

pub returns-clause-holds : goal.returns-clause-holds
returns-clause-holds g c = λ keeps. record { store = c.adopt.result; rests = c.rested.ensures.rests; stands = c.adopt.ensures.state keeps }
