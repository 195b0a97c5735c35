use Rattle.std.proofs.Common.{◌∙◌, ap}
use Rattle.clap.specs.Words.{rule_of}
use Rattle.command_line.proofs.Building.{some_is}
use Rattle.command_line.proofs.arguments.many.Goals as goal

pub returns-clause-rule : goal.returns-clause-rule
returns-clause-rule c = ap rule_of c.num_args.ensures.0 ∙ ap (λ range. record (rule_of c.args.argument) { range = range }) (some_is c.num_args.result.num_vals _ c.num_args.ensures.1)

pub returns-clause-local : goal.returns-clause-local
returns-clause-local c = ap (λ a. a.global) c.num_args.ensures.0
