use Rattle.std.proofs.Common.{◌∙◌, IsTrue, sym, ap, subst}
use Rattle.sector_disk.specs.Disk.{Disk}
use Rattle.journal.proofs.Calls.{proceeds, proceeds_then}
use Rattle.stores.proofs.Results.{if_ok}
use Rattle.image_care.specs.View.{fits_by}
use Rattle.image_care.proofs.examining.add_up.Goals as goal

pub returns-in-Ok-clause-fits : goal.returns-in-Ok-clause-fits
returns-in-Ok-clause-fits g c = λ keeps.
    let D = g.D.SectorDevice in
    let honest : IsTrue (D.keeps_model c.digest_of_blocks.new.device) = subst IsTrue (sym c.digest_of_blocks.ensures.reads.passes.model) keeps in
    if_ok c.with_digest.result
    (λ found is. is ∙ ap (λ (d : Disk). fits_by c.args.view.now.listing d.content) (c.digest_of_blocks.ensures.reads.disk keeps))
    (c.with_digest.ensures.fits honest)

pub returns-in-Ok-clause-digest : goal.returns-in-Ok-clause-digest
returns-in-Ok-clause-digest g c = λ keeps. if_ok c.with_digest.result (λ found is. is ∙ c.in-Ok.ensures.ok keeps) c.with_digest.ensures.digest

pub returns-in-Ok-clause-passes : goal.returns-in-Ok-clause-passes
returns-in-Ok-clause-passes g c =
    proceeds_then g.D.SectorDevice c.args.device.now c.digest_of_blocks.new.device c.with_digest.new.device g.met.D.SectorDevice.widens
    (proceeds g.D.SectorDevice c.args.device.now c.digest_of_blocks.new.device c.digest_of_blocks.ensures.reads.passes) c.with_digest.ensures.passes
