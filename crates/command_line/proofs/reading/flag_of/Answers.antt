use Rattle.std.specs.Str.Parse.{ParsesBool}
use Rattle.command_line.proofs.Given.{flag_given}
use Rattle.command_line.proofs.reading.flag_of.Goals as goal

pub returns : goal.returns
returns c = flag_given (λ bs r. ParsesBool bs r) c.args.given.now c.args.id.now c.get_one.result (λ u x given. given) c.get_one.ensures.none c.get_one.ensures.value
