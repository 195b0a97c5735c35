use Rattle.cell_machine.proofs.Floors.{product_is, product_small}
use Rattle.cell_machine.proofs.doubles.product.Goals as goal

pub returns-clause-value : goal.returns-clause-value
returns-clause-value c = product_is c.args.a c.args.b c.ranges.a c.ranges.b c.requires.a_small c.requires.b_small

pub returns-clause-size : goal.returns-clause-size
returns-clause-size c = product_small c.args.a c.args.b _ (product_is c.args.a c.args.b c.ranges.a c.ranges.b c.requires.a_small c.requires.b_small) c.requires.a_small c.requires.b_small
