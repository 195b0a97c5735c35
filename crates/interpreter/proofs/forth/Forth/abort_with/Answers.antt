use Rattle.interpreter.proofs.Wiring.{ran_aborts, stopped_aborts}
use Rattle.interpreter.proofs.forth.Forth.abort_with.Goals as goal

pub returns-in-Ok-clause-serves : goal.returns-in-Ok-clause-serves
returns-in-Ok-clause-serves g c = λ s at levels x stands. ran_aborts g.T.Terminal c.in-Ok.field-0 (c.in-Ok.ensures.serves s at levels x stands)

pub returns-in-Err-clause-serves : goal.returns-in-Err-clause-serves
returns-in-Err-clause-serves g c = λ s at levels x stands. stopped_aborts g.T.Terminal c.in-Err.stop (c.in-Err.ensures.serves s at levels x stands)
