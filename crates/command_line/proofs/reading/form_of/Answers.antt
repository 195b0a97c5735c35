use Rattle.std.proofs.Common.{subst}
use Rattle.std.specs.Prelude.{codes}
use Rattle.clap.specs.Words.{found_of, rows_of}
use Rattle.command_line.specs.Commands.{HasFlag}
use Rattle.command_line.proofs.reading.form_of.Goals as goal

pub returns-then-is_raw : goal.returns-then-is_raw
returns-then-is_raw c = subst (HasFlag (rows_of (found_of c.args.given.now)) (codes "raw")) c.if-is_raw.true c.in_ok-is_raw.ensures

pub returns-else-is_raw : goal.returns-else-is_raw
returns-else-is_raw c = subst (HasFlag (rows_of (found_of c.args.given.now)) (codes "raw")) c.if-is_raw.false c.in_ok-is_raw.ensures
