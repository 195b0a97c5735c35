use Rattle.interpreter.proofs.Undoing.{failed_undone}
use Rattle.interpreter.proofs.laws.failed_lines.Goals as goal

pub returns : goal.returns
returns c = failed_undone
