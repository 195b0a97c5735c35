-- A block that stands whole where it counts is the one that the image means.
use Rattle.std.proofs.Common.{◌≡◌, ◌∙◌, ◌<◌, ℕ, true, false, nat_eq, ap, refl, sym}
use Rattle.std.specs.Cmp.Lexicographic.{pointwise}
use Rattle.std.proofs.lemmas.Bool.Decides.{Decides-eqb}
use Rattle.std.proofs.lemmas.Slice.Eq.{slice_eq-Decides}
use Rattle.sector_disk.specs.Disk.{Image}
use Rattle.journal.specs.Maps.{block_in}
use Rattle.journal.specs.PageImages.{block_of, current_of, current_tag, record_of}
use Rattle.journal.specs.Tags.{tag_of}
use Rattle.journal.proofs.Blocks.{at_below}
use Rattle.journal.proofs.KnownSizes.{newer_sectors, size_newer}
use Rattle.recovery.specs.Label as older_label
use Rattle.shadow.specs.Label.{blocks_in, is_size}
use Rattle.stores.specs.Images.{HasMeaning, meaning}
use Rattle.stores.proofs.Opened.{has_newer, newer_meaning}
use Rattle.image_care.specs.Standing.{stands_whole}

module _ (sectors : ℕ) (image : Image) (is : is_size sectors ≡ true) where
  not_older : older_label.is_size sectors ≡ false
  not_older = size_newer (blocks_in sectors) sectors (newer_sectors sectors is)

  pub meant_block : (b : ℕ) → b < blocks_in sectors → block_of image b ≡ block_in (meaning sectors image) b
  meant_block b below =
      sym (at_below (block_of image) (blocks_in sectors) b below)
      ∙ ap (λ m. block_in m b) (newer_meaning sectors image not_older (blocks_in sectors) (newer_sectors sectors is))

  -- Of an image that has a meaning each block does.
  pub whole_block : HasMeaning sectors image → (b : ℕ) → b < blocks_in sectors → stands_whole image b ≡ true
  whole_block has b below =
      let tag = current_tag (record_of image) image b in
      let made = tag_of b (current_of (record_of image) image b) in
      (slice_eq-Decides Decides-eqb tag made (pointwise nat_eq tag made) refl).1 ((has_newer sectors image not_older has).whole.tags b below)
