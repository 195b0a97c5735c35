use Rattle.std.proofs.Common.{◌≡◌, ◌∙◌, true, inl, inr, ⊎_elim, sym}
use Rattle.std.proofs.lemmas.Result.{on_ok_weaker}
use Rattle.journal.proofs.Choices.{at_true}
use Rattle.shadow.specs.Label.{is_known_size}
use Rattle.shadow.proofs.Upgrades.{anyway}
use Rattle.stores.specs.ByLayout.{refusal_by}
use Rattle.stores.proofs.ByLayout.{blocks_is, has_is, is_has, known_is, passes_by, refusal_is, sized_by}
use Rattle.stores.proofs.Results.{either, if_err, if_ok, if_ok_both}
use Rattle.image_care.proofs.Findings.{if_ok_all, only_devices}
use Rattle.image_care.proofs.Looks.{blocks_found, looked, looked_few, size_of_view}
use Rattle.image_care.proofs.looking.look.Goals as goal

pub returns-in-Some-clause-size : goal.returns-in-Some-clause-size
returns-in-Some-clause-size g c =
    let D = g.D.SectorDevice in
    let old = c.args.device.now in
    let sectors = D.sector_count old in
    let look = c.look_by.ensures.looks in
    let l = c.in-Some.size.layout in
    let n = c.in-Some.size.blocks.number in
    let s = sized_by c.in-Some.size c.sectors.result sectors c.in-Some.ensures.layout c.in-Some.ensures.sectors c.sectors.ensures in
    if_ok_both c.look_by.result (λ view count by. size_of_view l n sectors s view count by) look.count look.by

pub returns-in-Some-clause-count : goal.returns-in-Some-clause-count
returns-in-Some-clause-count g c =
    let D = g.D.SectorDevice in
    let old = c.args.device.now in
    let sectors = D.sector_count old in
    let look = c.look_by.ensures.looks in
    let l = c.in-Some.size.layout in
    let n = c.in-Some.size.blocks.number in
    let s = sized_by c.in-Some.size c.sectors.result sectors c.in-Some.ensures.layout c.in-Some.ensures.sectors c.sectors.ensures in
    if_ok c.look_by.result (λ view count. count ∙ blocks_is l n sectors s) look.count

pub returns-in-Some-clause-layout : goal.returns-in-Some-clause-layout
returns-in-Some-clause-layout g c =
    let D = g.D.SectorDevice in
    let old = c.args.device.now in
    let sectors = D.sector_count old in
    let look = c.look_by.ensures.looks in
    let l = c.in-Some.size.layout in
    let n = c.in-Some.size.blocks.number in
    let s = sized_by c.in-Some.size c.sectors.result sectors c.in-Some.ensures.layout c.in-Some.ensures.sectors c.sectors.ensures in
    if_ok c.look_by.result (λ view by. by ∙ sym s.told) look.by

pub returns-in-Some-clause-listing : goal.returns-in-Some-clause-listing
returns-in-Some-clause-listing g c =
    let D = g.D.SectorDevice in
    let old = c.args.device.now in
    let sectors = D.sector_count old in
    let look = c.look_by.ensures.looks in
    let l = c.in-Some.size.layout in
    let n = c.in-Some.size.blocks.number in
    let s = sized_by c.in-Some.size c.sectors.result sectors c.in-Some.ensures.layout c.in-Some.ensures.sectors c.sectors.ensures in
    look.listing

pub returns-in-Some-clause-blocks : goal.returns-in-Some-clause-blocks
returns-in-Some-clause-blocks g c =
    let D = g.D.SectorDevice in
    let old = c.args.device.now in
    let sectors = D.sector_count old in
    let image = (D.disk old).content in
    let look = c.look_by.ensures.looks in
    let l = c.in-Some.size.layout in
    let n = c.in-Some.size.blocks.number in
    let s = sized_by c.in-Some.size c.sectors.result sectors c.in-Some.ensures.layout c.in-Some.ensures.sectors c.sectors.ensures in
    λ keeps. if_ok_all c.look_by.result (λ view count by of. blocks_found l n sectors s image view count by of) look.count look.by (look.listing keeps)

pub returns-in-Some-clause-meaning : goal.returns-in-Some-clause-meaning
returns-in-Some-clause-meaning g c =
    let D = g.D.SectorDevice in
    let old = c.args.device.now in
    let sectors = D.sector_count old in
    let image = (D.disk old).content in
    let look = c.look_by.ensures.looks in
    let l = c.in-Some.size.layout in
    let n = c.in-Some.size.blocks.number in
    let s = sized_by c.in-Some.size c.sectors.result sectors c.in-Some.ensures.layout c.in-Some.ensures.sectors c.sectors.ensures in
    λ keeps. on_ok_weaker c.look_by.result (has_is l n sectors s image) (look.meaning keeps)

pub returns-in-Some-clause-good : goal.returns-in-Some-clause-good
returns-in-Some-clause-good g c =
    let D = g.D.SectorDevice in
    let old = c.args.device.now in
    let sectors = D.sector_count old in
    let image = (D.disk old).content in
    let look = c.look_by.ensures.looks in
    let l = c.in-Some.size.layout in
    let n = c.in-Some.size.blocks.number in
    let s = sized_by c.in-Some.size c.sectors.result sectors c.in-Some.ensures.layout c.in-Some.ensures.sectors c.sectors.ensures in
    λ keeps known has. only_devices c.look_by.result (refusal_by l n image) (passes_by l n sectors s image (is_has l n sectors s image has)) (look.exact keeps)

pub returns-in-Some-clause-exact : goal.returns-in-Some-clause-exact
returns-in-Some-clause-exact g c =
    let D = g.D.SectorDevice in
    let old = c.args.device.now in
    let sectors = D.sector_count old in
    let image = (D.disk old).content in
    let look = c.look_by.ensures.looks in
    let l = c.in-Some.size.layout in
    let n = c.in-Some.size.blocks.number in
    let s = sized_by c.in-Some.size c.sectors.result sectors c.in-Some.ensures.layout c.in-Some.ensures.sectors c.sectors.ensures in
    λ keeps. either c.look_by.result (λ view none. refusal_is l n sectors s image ∙ none)
    (λ e. ⊎_elim (λ failed. inl failed) (λ refused. inr (refusal_is l n sectors s image ∙ refused))) (look.exact keeps)

pub returns-in-Some-clause-sized : goal.returns-in-Some-clause-sized
returns-in-Some-clause-sized g c =
    let D = g.D.SectorDevice in
    let old = c.args.device.now in
    let sectors = D.sector_count old in
    let look = c.look_by.ensures.looks in
    let l = c.in-Some.size.layout in
    let n = c.in-Some.size.blocks.number in
    let s = sized_by c.in-Some.size c.sectors.result sectors c.in-Some.ensures.layout c.in-Some.ensures.sectors c.sectors.ensures in
    anyway c.look_by.result (is_known_size sectors ≡ true) (known_is l n sectors s)

pub returns-in-Some-clause-bad_size : goal.returns-in-Some-clause-bad_size
returns-in-Some-clause-bad_size g c =
    let D = g.D.SectorDevice in
    let old = c.args.device.now in
    let sectors = D.sector_count old in
    let look = c.look_by.ensures.looks in
    let l = c.in-Some.size.layout in
    let n = c.in-Some.size.blocks.number in
    let s = sized_by c.in-Some.size c.sectors.result sectors c.in-Some.ensures.layout c.in-Some.ensures.sectors c.sectors.ensures in
    if_err c.look_by.result (λ e other. at_true (is_known_size sectors) _ _ (known_is l n sectors s) other) look.tells.sized

pub returns-in-Some-clause-unasked : goal.returns-in-Some-clause-unasked
returns-in-Some-clause-unasked g c = if_err c.look_by.result (λ e other same. absurd (other same)) c.look_by.ensures.looks.tells.sized

pub returns-in-Some-clause-device : goal.returns-in-Some-clause-device
returns-in-Some-clause-device g c = c.look_by.ensures.looks.tells.device

pub returns-in-Some-clause-refused : goal.returns-in-Some-clause-refused
returns-in-Some-clause-refused g c = c.look_by.ensures.looks.tells.refused

pub returns-in-Some-clause-well : goal.returns-in-Some-clause-well
returns-in-Some-clause-well g c = c.look_by.ensures.looks.tells.well

pub returns-in-Some-clause-disk : goal.returns-in-Some-clause-disk
returns-in-Some-clause-disk g c = c.look_by.ensures.looks.only_read.disk

pub returns-in-Some-clause-stops : goal.returns-in-Some-clause-stops
returns-in-Some-clause-stops g c = c.look_by.ensures.looks.only_read.stops

pub returns-in-Some-clause-passes : goal.returns-in-Some-clause-passes
returns-in-Some-clause-passes g c = c.look_by.ensures.looks.only_read.passes

pub returns-in-Some-clause-begins : goal.returns-in-Some-clause-begins
returns-in-Some-clause-begins g c = c.look_by.ensures.looks.only_read.begins

pub returns-in-Some-clause-reads : goal.returns-in-Some-clause-reads
returns-in-Some-clause-reads g c =
    let D = g.D.SectorDevice in
    let old = c.args.device.now in
    let sectors = D.sector_count old in
    let look = c.look_by.ensures.looks in
    let l = c.in-Some.size.layout in
    let n = c.in-Some.size.blocks.number in
    let s = sized_by c.in-Some.size c.sectors.result sectors c.in-Some.ensures.layout c.in-Some.ensures.sectors c.sectors.ensures in
    λ keeps. looked D old c.look_by.new.device l n sectors s (D.disk old).content (look.reads keeps)

pub returns-in-Some-clause-few : goal.returns-in-Some-clause-few
returns-in-Some-clause-few g c =
    let D = g.D.SectorDevice in
    let old = c.args.device.now in
    let sectors = D.sector_count old in
    let look = c.look_by.ensures.looks in
    let l = c.in-Some.size.layout in
    let n = c.in-Some.size.blocks.number in
    let s = sized_by c.in-Some.size c.sectors.result sectors c.in-Some.ensures.layout c.in-Some.ensures.sectors c.sectors.ensures in
    looked_few D old c.look_by.new.device l n sectors s look.few
