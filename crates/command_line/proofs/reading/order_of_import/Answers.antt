use Rattle.std.proofs.Common.{refl, subst}
use Rattle.std.specs.Prelude.{codes}
use Rattle.clap.specs.Words.{found_of, rows_of}
use Rattle.command_line.specs.Commands.{HasFlag}
use Rattle.command_line.proofs.reading.order_of_import.Goals as goal

pub returns-then-is_checked-clause-given : goal.returns-then-is_checked-clause-given
returns-then-is_checked-clause-given c = (
  refl,
  c.requires.image,
  c.requires.first,
  c.in_ok-files.ensures,
  c.in_ok-form.ensures,
  subst (HasFlag (rows_of (found_of c.args.given.now)) (codes "check")) c.if-is_checked.true c.in_ok-is_checked.ensures,
)

pub returns-else-is_checked-clause-given : goal.returns-else-is_checked-clause-given
returns-else-is_checked-clause-given c = (
  refl,
  c.requires.image,
  c.requires.first,
  c.in_ok-files.ensures,
  c.in_ok-form.ensures,
  subst (HasFlag (rows_of (found_of c.args.given.now)) (codes "check")) c.if-is_checked.false c.in_ok-is_checked.ensures,
)
