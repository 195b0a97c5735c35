use Rattle.std.specs.Str.Parse.{ParsesUnsigned, ExplainsUnsignedError, HasUnsignedDigitsIfOk}
use Rattle.command_line.proofs.Given.{number_given}
use Rattle.command_line.proofs.reading.number_of.Goals as goal

pub returns : goal.returns
returns c = number_given (λ bs r. ParsesUnsigned 16 10 bs r × ExplainsUnsignedError 10 bs r × HasUnsignedDigitsIfOk bs r) 16 c.args.given.now c.args.id.now c.get_one.result (λ u x given. given.0) c.get_one.ensures.none c.get_one.ensures.value
