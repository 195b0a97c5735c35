use Rattle.std.proofs.Common.{refl}
use Rattle.std.specs.Prelude.{codes}
use Rattle.command_line.proofs.Given.{text_given}
use Rattle.command_line.proofs.reading.order_of_salvage.Goals as goal

pub returns-clause-given : goal.returns-clause-given
returns-clause-given c = (
  refl,
  text_given c.args.given.now (codes "OLD") c.in_ok-old.old.now c.in_ok-old.ensures,
  text_given c.args.given.now (codes "NEW") c.in_ok-new.new.now c.in_ok-new.ensures,
  c.in_ok-asked_blocks_of.ensures.given,
)
