use Rattle.std.specs.Str.Parse.{ParsesUnsigned, ExplainsUnsignedError, HasUnsignedDigitsIfOk}
use Rattle.std.proofs.Common.{Some}
use Rattle.std.specs.Prelude.{codes}
use Rattle.command_line.proofs.Given.{number_given}
use Rattle.command_line.proofs.reading.blocks_of.Goals as goal

pub returns-in-32-to-3840-clause-number : goal.returns-in-32-to-3840-clause-number
returns-in-32-to-3840-clause-number c =
    number_given (λ bs r. ParsesUnsigned 16 10 bs r × ExplainsUnsignedError 10 bs r × HasUnsignedDigitsIfOk bs r) 16 c.args.given.now (codes "blocks") (Some c.in_ok-blocks.blocks) (λ u x given. given.0) c.in_ok-blocks.ensures.none c.in_ok-blocks.ensures.value
