use Rattle.interpreter.proofs.forth.Forth.break_off.Goals as goal

pub returns-clause-closes : goal.returns-clause-closes
returns-clause-closes g c = λ x h. c.abandon.ensures.closes x h

pub returns-clause-same_core : goal.returns-clause-same_core
returns-clause-same_core g c = λ d h. let s = c.abandon.ensures.same_core d h in record { stack = s.stack; space = s.space }

pub returns-clause-clears : goal.returns-clause-clears
returns-clause-clears g c = λ x h.
    let s = c.abandon.ensures.clears x h in
    (s.0, record { budget = s.1.budget; undoes = s.1.undoes; same_core = record { stack = s.1.same_core.stack; space = s.1.same_core.space }; rests = s.1.rests }, s.2)
