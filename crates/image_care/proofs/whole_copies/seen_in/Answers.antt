use Rattle.std.proofs.Common.{◌≡◌, ◌∙◌, ap, subst, sym, true}
use Rattle.shadow.specs.Label.{is_size}
use Rattle.sector_disk.specs.Disk.{Disk}
use Rattle.sector_disk.specs.FileBytes.{disk_of_file}
use Rattle.stores.specs.Images.{HasMeaning}
use Rattle.journal.proofs.KnownSizes.{newer_known}
use Rattle.image_care.specs.Seen.{still}
use Rattle.image_care.proofs.Stills.{not_failed}
use Rattle.image_care.proofs.whole_copies.seen_in.Goals as goal

pub returns-in-Ok-clause-whole : goal.returns-in-Ok-clause-whole
returns-in-Ok-clause-whole c = λ is.
    let made = c.new.ensures in
    subst (λ n. HasMeaning n (disk_of_file (still c.args.bytes.now)).content) made.sectors
    (subst (λ (d : Disk). HasMeaning c.new.result.sectors d.content) made.disk (c.in-Ok.ensures.meaning made.model))

-- No read has failed, so what is refused has no meaning.
pub returns-in-Err-clause-torn : goal.returns-in-Err-clause-torn
returns-in-Err-clause-torn c = λ is meant.
    let made = c.new.ensures in
    let sized : is_size c.new.result.sectors ≡ true = ap is_size made.sectors ∙ c.requires.newer in
    let sized_alike =
    subst (λ n. HasMeaning n (disk_of_file (still c.args.bytes.now)).content) (sym made.sectors) meant in
    let means =
    subst (λ (d : Disk). HasMeaning c.new.result.sectors d.content) (sym made.disk) sized_alike in
    let refused = c.in-Err.ensures in
    not_failed _ c.new.result c.look.new.device made.reads made.failures
    (record { disk = c.look.ensures.disk; stops = c.look.ensures.stops; passes = c.look.ensures.passes; begins = c.look.ensures.begins })
    (refused.device (refused.good made.model (newer_known c.new.result.sectors sized) means))
