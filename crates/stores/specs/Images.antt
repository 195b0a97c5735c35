-- What an image means by the layout that it has: 2, the older one, or 3, the newer one.
use Rattle.std.specs.Prelude.{ℕ, if◌then◌else◌, List, MatchBool}
use Rattle.sector_disk.specs.Disk.{Image}
use Rattle.journal.specs.Chain as older
use Rattle.journal.specs.Images as older_images
use Rattle.recovery.specs.Label as older_label
use Rattle.journal.specs.PageImages as newer_images
use Rattle.shadow.specs.Label as newer_label
use Rattle.shadow.specs.Opened as newer

-- How many sectors there are tells the layout: images of layout 2 have an odd number, and those of layout 3 an even one.

-- the blocks of an image with so many sectors
abbrev pub meaning : ℕ → Image → List (List ℕ)
meaning sectors image =
    if older_label.is_size sectors then older_images.meaning (older_label.blocks_in sectors) image
    else newer_images.meaning (newer_label.blocks_in sectors) image

-- An image with so many sectors has a meaning.
abbrev pub HasMeaning : ℕ → Image → Type 0
HasMeaning sectors image = MatchBool (older_label.is_size sectors)
    (older.HasMeaning (older_label.blocks_in sectors) image) (newer.HasMeaning (newer_label.blocks_in sectors) image)
