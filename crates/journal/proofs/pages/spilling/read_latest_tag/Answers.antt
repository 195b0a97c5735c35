use Rattle.std.proofs.Common.{◌≡◌, ◌+◌, ◌∙◌, ap, subst}
use Rattle.std.specs.Prelude.{IfOk}
use Rattle.journal.specs.PageLayout.{tag_in}
use Rattle.journal.proofs.Spilled.{tag_there}
use Rattle.journal.proofs.pages.spilling.read_latest_tag.Goals as goal

pub returns-clause-bytes : goal.returns-clause-bytes
returns-clause-bytes g c = λ keeps.
    let image = (g.D.SectorDevice.disk c.args.device.now).content in
    subst (λ xs. IfOk c.read_tag.result (λ found. found ≡ xs))
    (ap (λ j. tag_in (image (j + 2))) c.latest_sector-k.ensures.place ∙ tag_there c.args.listing.now c.args.pending.now image c.args.b)
    (c.read_tag.ensures.bytes keeps)
