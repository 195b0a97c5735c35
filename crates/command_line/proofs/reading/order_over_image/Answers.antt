use Rattle.std.proofs.Common.{rules}
use Rattle.std.specs.Prelude.{codes}
use Rattle.command_line.proofs.Given.{text_given}
use Rattle.command_line.proofs.reading.order_over_image.Goals as goal

pub order_of_new-requires : goal.order_of_new-requires
order_of_new-requires c = text_given c.args.given.now (codes "IMAGE") c.in_ok-image.image.now c.in_ok-image.ensures

pub order_of_run-requires : goal.order_of_run-requires
order_of_run-requires c = text_given c.args.given.now (codes "IMAGE") c.in_ok-image.image.now c.in_ok-image.ensures

pub order_of_check-requires : goal.order_of_check-requires
order_of_check-requires c = text_given c.args.given.now (codes "IMAGE") c.in_ok-image.image.now c.in_ok-image.ensures

pub returns-in_ok-number_of-in-list-clause-given : goal.returns-in_ok-number_of-in-list-clause-given
returns-in_ok-number_of-in-list-clause-given c = (
  search rules,
  text_given c.args.given.now (codes "IMAGE") c.in_ok-image.image.now c.in_ok-image.ensures,
  c.in_ok-number_of-in-list.ensures,
)

pub returns-in_ok-get_str-in-put-clause-given : goal.returns-in_ok-get_str-in-put-clause-given
returns-in_ok-get_str-in-put-clause-given c = (
  search rules,
  text_given c.args.given.now (codes "IMAGE") c.in_ok-image.image.now c.in_ok-image.ensures,
  c.in_ok-number_of-in-put.ensures,
  text_given c.args.given.now (codes "FILE") c.in_ok-get_str-in-put.field-0.now c.in_ok-get_str-in-put.ensures,
)

pub order_over_blocks-requires : goal.order_over_blocks-requires
order_over_blocks-requires c = text_given c.args.given.now (codes "IMAGE") c.in_ok-image.image.now c.in_ok-image.ensures
