use Rattle.std.proofs.Common.{◌∙◌, ap}
use Rattle.journal.specs.PageLayout.{sectors_for}
use Rattle.journal.proofs.KnownSizes.{newer_blocks, newer_sectors, size_newer}
use Rattle.journal.proofs.sizes.pages_size.Goals as goal

pub returns-in-Some-clause-sectors : goal.returns-in-Some-clause-sectors
returns-in-Some-clause-sectors c = newer_sectors c.args.sectors c.in-Some.ensures.size ∙ ap sectors_for c.in-Some.ensures.number

pub returns-in-Some-clause-count : goal.returns-in-Some-clause-count
returns-in-Some-clause-count c =
    let size = returns-in-Some-clause-sectors c in
    newer_blocks c.in-Some.number c.args.sectors (size_newer c.in-Some.number c.args.sectors size) size
