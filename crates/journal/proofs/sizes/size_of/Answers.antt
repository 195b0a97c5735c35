use Rattle.std.proofs.Common.{◌∙◌, ap, sym}
use Rattle.journal.specs.Layouts.{is_journal, sectors_for}
use Rattle.journal.proofs.KnownSizes.{older_known}
use Rattle.journal.proofs.sizes.size_of.Goals as goal

pub returns-in-Some-clause-some : goal.returns-in-Some-clause-some
returns-in-Some-clause-some c = older_known c.args.sectors c.in-Some.ensures.some

pub returns-in-Some-clause-layout : goal.returns-in-Some-clause-layout
returns-in-Some-clause-layout c = ap is_journal c.in-Some.ensures.layout ∙ sym c.in-Some.ensures.some

pub returns-in-Some-clause-sectors : goal.returns-in-Some-clause-sectors
returns-in-Some-clause-sectors c = c.in-Some.ensures.sectors ∙ sym (ap (λ l. sectors_for l c.in-Some.size.blocks.number) c.in-Some.ensures.layout)
