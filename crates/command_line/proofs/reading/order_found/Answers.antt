use Rattle.std.proofs.Common.{sym}
use Rattle.clap.specs.Words.{found_of, rows_of}
use Rattle.command_line.proofs.Given.{name_met, none_given, order_given}
use Rattle.command_line.proofs.reading.order_found.Goals as goal

pub returns-in_default-clause-given : goal.returns-in_default-clause-given
returns-in_default-clause-given c = none_given c.args.matches.now c.in_default.ensures.rows

pub returns-in-Some-order_of-clause-given : goal.returns-in-Some-order_of-clause-given
returns-in-Some-order_of-clause-given c =
    order_given c.args.matches.now c.in-Some.name.now (rows_of (found_of c.in-Some.given.now)) c.in-Some-order_of.order
    (name_met c.args.matches.now c.in-Some.name.now c.in-Some.ensures.name) (sym c.in-Some.ensures.rows) c.in-Some-order_of.ensures.given
