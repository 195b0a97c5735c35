use Rattle.std.proofs.Common.{◌≡◌, ◌∙◌, ◌*◌, IsTrue, sym, ap, subst}
use Rattle.std.specs.Prelude.{IfOk}
use Rattle.std.specs.List.{concat}
use Rattle.sector_disk.specs.Disk.{Disk}
use Rattle.recovery.proofs.Upgrades.{only_read_then}
use Rattle.stores.specs.Images.{meaning}
use Rattle.stores.proofs.Results.{if_ok}
use Rattle.image_care.specs.Examined.{joined_below}
use Rattle.image_care.specs.View.{found_by}
use Rattle.image_care.proofs.Looks.{found_meaning}
use Rattle.image_care.proofs.all_blocks.read_blocks.Goals as goal

pub returns-in-Ok-clause-bytes : goal.returns-in-Ok-clause-bytes
returns-in-Ok-clause-bytes g c = λ keeps.
    let D = g.D.SectorDevice in
    let old = c.args.device.now in
    let view = c.in-Ok.view in
    let n = view.blocks.number in
    let honest : IsTrue (D.keeps_model c.look.new.device) = subst IsTrue (sym c.look.ensures.passes.model) keeps in
    let same : joined_below (found_by view (D.disk c.look.new.device).content) n ≡ concat (meaning (D.sector_count old) (D.disk old).content) =
    ap (λ (d : Disk). joined_below (found_by view d.content) n) (c.look.ensures.disk keeps)
    ∙ found_meaning view (D.sector_count old) (D.disk old).content c.in-Ok.ensures.count (c.in-Ok.ensures.blocks keeps) in
    subst (λ bytes. IfOk c.collect.result (λ v. v.items ≡ bytes)) same (c.collect.ensures.bytes honest)

pub returns-in-Ok-clause-length : goal.returns-in-Ok-clause-length
returns-in-Ok-clause-length g c =
    if_ok c.collect.result (λ v long. long ∙ ap (λ n. 1024 * n) c.in-Ok.ensures.count) c.collect.ensures.length

pub returns-in-Ok-clause-only_read : goal.returns-in-Ok-clause-only_read
returns-in-Ok-clause-only_read g c =
    let one = c.look.ensures in
    only_read_then g.D.SectorDevice c.args.device.now c.look.new.device c.collect.new.device g.met.D.SectorDevice.widens
    (record { disk = one.disk; stops = one.stops; passes = one.passes; begins = one.begins }) c.collect.ensures.only_read

pub returns-in-Err-clause-only_read : goal.returns-in-Err-clause-only_read
returns-in-Err-clause-only_read g c =
    let one = c.look.ensures in
    record { disk = one.disk; stops = one.stops; passes = one.passes; begins = one.begins }
