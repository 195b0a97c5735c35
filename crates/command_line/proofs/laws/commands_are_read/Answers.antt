use Rattle.command_line.proofs.CommandRows.{commands_are_read}
use Rattle.command_line.proofs.laws.commands_are_read.Goals as goal

pub returns : goal.returns
returns c = commands_are_read
