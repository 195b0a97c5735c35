use Rattle.std.proofs.Common.{◌≡◌, ◌∙◌, IsTrue, sym, ap, subst, arith}
use Rattle.std.specs.Prelude.{if◌then◌else◌}
use Rattle.std.specs.List.{concat}
use Rattle.sha2.specs.Sha256.{sha256}
use Rattle.sector_disk.specs.Disk.{Disk}
use Rattle.journal.proofs.Calls.{proceeds_then}
use Rattle.stores.specs.Images.{meaning}
use Rattle.stores.proofs.Results.{if_ok}
use Rattle.image_care.specs.Examined.{joined_below}
use Rattle.image_care.specs.Looked.{reads_of_gate}
use Rattle.image_care.specs.View.{fits_by, found_by, is_journal}
use Rattle.image_care.proofs.Looks.{fit_is, found_meaning, save_is}
use Rattle.shadow.specs.Label.{blocks_in}
use Rattle.recovery.specs.Label as older
use Rattle.image_care.proofs.examining.examine.Goals as goal

pub returns-clause-digest : goal.returns-clause-digest
returns-clause-digest g c = λ keeps.
    let D = g.D.SectorDevice in
    let old = c.args.device.now in
    let view = c.in_ok-view.view in
    let n = view.blocks.number in
    let honest : IsTrue (D.keeps_model c.look.new.device) = subst IsTrue (sym c.look.ensures.passes.model) keeps in
    let same : joined_below (found_by view (D.disk c.look.new.device).content) n ≡ concat (meaning (D.sector_count old) (D.disk old).content) =
    ap (λ (d : Disk). joined_below (found_by view d.content) n) (c.look.ensures.disk keeps)
    ∙ found_meaning view (D.sector_count old) (D.disk old).content c.in_ok-view.ensures.count (c.in_ok-view.ensures.blocks keeps) in
    if_ok c.add_up.result (λ found is. is ∙ ap sha256 same) (c.add_up.ensures.digest honest)

pub returns-clause-under_way : goal.returns-clause-under_way
returns-clause-under_way g c = λ keeps.
    let D = g.D.SectorDevice in
    let old = c.args.device.now in
    let look = c.in_ok-view.ensures in
    if_ok c.add_up.result
    (λ found is. is ∙ save_is c.in_ok-view.view (D.sector_count old) (D.disk old).content look.layout look.count (look.listing keeps))
    c.add_up.ensures.under_way

pub returns-clause-fits : goal.returns-clause-fits
returns-clause-fits g c = λ keeps.
    let D = g.D.SectorDevice in
    let old = c.args.device.now in
    let look = c.in_ok-view.ensures in
    let honest : IsTrue (D.keeps_model c.look.new.device) = subst IsTrue (sym c.look.ensures.passes.model) keeps in
    if_ok c.add_up.result
    (λ found is. is ∙ ap (λ (d : Disk). fits_by c.in_ok-view.view.listing d.content) (c.look.ensures.disk keeps)
    ∙ fit_is c.in_ok-view.view (D.sector_count old) (D.disk old).content look.layout (look.listing keeps))
    (c.add_up.ensures.fits honest)

pub returns-clause-reads : goal.returns-clause-reads
returns-clause-reads g c = λ keeps.
    let look = c.in_ok-view.ensures in
    omega (arith, c.look.ensures.reads keeps, c.add_up.ensures.costs.few_reads, look.count, ap reads_of_gate look.layout)

pub returns-clause-few : goal.returns-clause-few
returns-clause-few g c = λ newer.
    let sectors = g.D.SectorDevice.sector_count c.args.device.now in
    let look = c.in_ok-view.ensures in
    let count : c.in_ok-view.view.blocks.number ≡ blocks_in sectors = look.count ∙ ap (λ b. if b then older.blocks_in sectors else blocks_in sectors) newer in
    let one : reads_of_gate (is_journal c.in_ok-view.view.listing) ≡ 1 = ap reads_of_gate (look.layout ∙ newer) in
    omega (arith, c.look.ensures.few newer, c.add_up.ensures.costs.few_reads, count, one)

pub returns-clause-passes : goal.returns-clause-passes
returns-clause-passes g c =
    proceeds_then g.D.SectorDevice c.args.device.now c.look.new.device c.add_up.new.device g.met.D.SectorDevice.widens
    c.look.ensures.passes c.add_up.ensures.passes
