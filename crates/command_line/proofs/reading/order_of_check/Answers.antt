use Rattle.std.proofs.Common.{refl, subst}
use Rattle.std.specs.Prelude.{codes}
use Rattle.clap.specs.Words.{found_of, rows_of}
use Rattle.command_line.specs.Commands.{HasFlag}
use Rattle.command_line.proofs.reading.order_of_check.Goals as goal

pub returns-then-is_of_blocks-clause-given : goal.returns-then-is_of_blocks-clause-given
returns-then-is_of_blocks-clause-given c = (
  refl,
  c.requires,
  subst (HasFlag (rows_of (found_of c.args.given.now)) (codes "blocks")) c.if-is_of_blocks.true c.in_ok-is_of_blocks.ensures,
)

pub returns-else-is_of_blocks-clause-given : goal.returns-else-is_of_blocks-clause-given
returns-else-is_of_blocks-clause-given c = (
  refl,
  c.requires,
  subst (HasFlag (rows_of (found_of c.args.given.now)) (codes "blocks")) c.if-is_of_blocks.false c.in_ok-is_of_blocks.ensures,
)
