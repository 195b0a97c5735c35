use Rattle.std.proofs.Common.{refl}
use Rattle.command_line.proofs.reading.order_of_run.Goals as goal

pub returns-clause-given : goal.returns-clause-given
returns-clause-given c = (refl, c.requires, c.in_ok-steps.ensures.number, c.in_ok-script_of.ensures)
