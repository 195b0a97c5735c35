use Rattle.journal.proofs.KnownSizes.{positive}
use Rattle.journal.proofs.sizes.known_blocks.Goals as goal

pub returns-in-Some-clause-sized : goal.returns-in-Some-clause-sized
returns-in-Some-clause-sized c = positive c.in-Some.size.layout c.in-Some.size.blocks.number c.args.sectors c.in-Some.ensures.sectors
