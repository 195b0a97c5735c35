use Rattle.std.specs.Str.Parse.{ParsesUnsigned, ExplainsUnsignedError, HasUnsignedDigitsIfOk}
use Rattle.std.proofs.Common.{Some}
use Rattle.std.specs.Prelude.{codes}
use Rattle.command_line.proofs.Given.{number_given}
use Rattle.command_line.proofs.reading.steps_of.Goals as goal

pub returns-in-1-to-1000000000-clause-number : goal.returns-in-1-to-1000000000-clause-number
returns-in-1-to-1000000000-clause-number c =
    number_given (λ bs r. ParsesUnsigned 32 10 bs r × ExplainsUnsignedError 10 bs r × HasUnsignedDigitsIfOk bs r) 32 c.args.given.now (codes "steps") (Some c.in_ok-steps.steps) (λ u x given. given.0) c.in_ok-steps.ensures.none c.in_ok-steps.ensures.value
