use Rattle.journal.proofs.KnownSizes.{older_blocks}
use Rattle.journal.proofs.sizes.journal_size.Goals as goal

pub returns-in-Some-clause-count : goal.returns-in-Some-clause-count
returns-in-Some-clause-count c = older_blocks c.in-Some.number c.args.sectors c.in-Some.ensures.some c.in-Some.ensures.size
