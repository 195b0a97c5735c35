use Rattle.std.proofs.Common.{refl, arith}
use Rattle.lexicon.specs.Language.{giving}
use Rattle.interpreter.specs.Lexicon.{language_of}
use Rattle.interpreter.specs.Representation.{core}
use Rattle.interpreter.specs.Lexicon.{as_it_is}
use Rattle.interpreter.proofs.Stepping.{gave_done, gave_refused}
use Rattle.interpreter.proofs.forth.Forth.give_part.Goals as goal

pub returns-in-Ok-clause-alters : goal.returns-in-Ok-clause-alters
returns-in-Ok-clause-alters g c = λ owner parts levels x stands part.
    gave_done c.args.self.now _ c.args.self.now.lexicon (giving (record { owner = owner; parts = parts }) (language_of x)) as_it_is (core c.args.self.now) stands
    (c.in-Ok.ensures.given (language_of x) owner parts stands.rests.meant part)
    (λ r. refl) refl (omega arith)

pub returns-in-Err-clause-alters : goal.returns-in-Err-clause-alters
returns-in-Err-clause-alters g c = λ owner parts levels x stands part.
    gave_refused c.args.self.now _ c.args.self.now.lexicon (giving (record { owner = owner; parts = parts }) (language_of x)) as_it_is (core c.args.self.now) stands
    (c.in-Err.ensures.refused.0 (language_of x) owner parts stands.rests.meant part) c.in-Err.ensures.refused.1 c.lexicon_fault.ensures.fault
    (λ r. refl) refl (omega arith)
