use Rattle.std.proofs.Common.{subst}
use Rattle.sector_disk.specs.Disk.{Image}
use Rattle.journal.specs.PageImages.{IsWhole}
use Rattle.image_care.specs.Through.{image_of}
use Rattle.image_care.proofs.Mendings.{replaced_under}
use Rattle.image_care.proofs.mending.is_whole_under.Goals as goal

pub returns-clause-whole : goal.returns-clause-whole
returns-clause-whole c =
    let one = c.in_place_of_named in
    let same = replaced_under one.result c.args.listing.now (image_of c.args.bytes.now) one.ensures.at one.ensures.bytes in
    λ is. subst (λ (i : Image). IsWhole c.args.blocks i) same (c.is_whole.ensures.whole is)

pub returns-clause-damaged : goal.returns-clause-damaged
returns-clause-damaged c =
    let one = c.in_place_of_named in
    let same = replaced_under one.result c.args.listing.now (image_of c.args.bytes.now) one.ensures.at one.ensures.bytes in
    λ isnt. subst (λ (i : Image). ¬ IsWhole c.args.blocks i) same (c.is_whole.ensures.damaged isnt)
