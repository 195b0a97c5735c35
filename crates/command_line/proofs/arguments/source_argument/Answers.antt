use Rattle.std.proofs.Common.{◌∙◌, ap}
use Rattle.clap.specs.Words.{rule_of}
use Rattle.command_line.specs.Commands.{many}
use Rattle.command_line.proofs.arguments.source_argument.Goals as goal

pub returns-clause-rule : goal.returns-clause-rule
returns-clause-rule c = ap rule_of c.help.ensures ∙ c.many.ensures.rule ∙ ap many c.file_argument.ensures.rule

pub returns-clause-local : goal.returns-clause-local
returns-clause-local c = ap (λ a. a.global) c.help.ensures ∙ c.many.ensures.local ∙ c.file_argument.ensures.local
