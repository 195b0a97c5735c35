-- What a look finds is what the image means.
use Rattle.std.proofs.Common.{◌≡◌, ◌∙◌, ◌<◌, ℕ, length, ◌+◌, ◌*◌, Bool, true, false, None, refl, sym, ap, subst}
use Rattle.std.specs.Prelude.{if◌then◌else◌}
use Rattle.std.specs.List.{concat}
use Rattle.sector_disk.specs.Disk.{Image}
use Rattle.sector_disk.specs.declared.device.SectorDevice.{Ghosts}
use Rattle.journal.specs.Calls.{ReadsAtMost}
use Rattle.journal.specs.Images as older_images
use Rattle.journal.specs.Images.{blocks_below, pair_at}
use Rattle.journal.specs.Layout as older_layout
use Rattle.journal.specs.PageImages as newer_images
use Rattle.journal.specs.PageLayout as newer_layout
use Rattle.journal.specs.PageLayout.{current_at, gate_at, is_gate_of}
use Rattle.journal.specs.Maps.{block_in}
use Rattle.journal.proofs.Blocks.{all_below, at_below, length-below, same_below}
use Rattle.journal.specs.Layouts as layouts
use Rattle.journal.specs.declared.sizes.Layout.{Layout}
use Rattle.journal.specs.declared.sizes.Layout.TheVariants as layouts_of
use Rattle.journal.proofs.KnownSizes.{newer_count, older_count}
use Rattle.recovery.specs.Found.{place_in}
use Rattle.recovery.specs.Label as older_label
use Rattle.shadow.specs.Label as newer_label
use Rattle.shadow.specs.Upgraded.{known_blocks}
use Rattle.stores.specs.Images.{meaning}
use Rattle.stores.specs.ByLayout.{IsSized}
use Rattle.stores.proofs.Opened.{newer_meaning, older_meaning}
use Rattle.image_care.specs.Examined.{count_in, joined_below, reads_to_list, record_in}
use Rattle.image_care.specs.Looked.{gate_fits_in, reads_by, reads_to_look, save_in}
use Rattle.image_care.specs.View.{IsOf, fits_by, found_by, is_journal, place_by, save_by, sectors_for, sectors_of}
use Rattle.image_care.specs.declared.view.Listing.{Listing}
use Rattle.image_care.specs.declared.view.Listing.TheVariants.{Journal, Pages}
use Rattle.image_care.specs.declared.view.View.{View}
use Rattle.image_care.proofs.Examinations.{found_block, joined_blocks}

-- The blocks that are found, one after another, are the image's.
pub found_meaning : (view : View) (sectors : ℕ) (image : Image) → view.blocks.number ≡ known_blocks sectors
    → ((b : ℕ) → b < view.blocks.number → found_by view image b ≡ block_in (meaning sectors image) b)
    → joined_below (found_by view image) view.blocks.number ≡ concat (meaning sectors image)
found_meaning view sectors image count blocks =
    joined_blocks (found_by view image) view.blocks.number
    ∙ ap concat (same_below (found_by view image) (block_in (meaning sectors image)) view.blocks.number blocks)
    ∙ ap (λ n. concat (blocks_below (block_in (meaning sectors image)) n)) (count ∙ sym (long (older_label.is_size sectors)))
    ∙ ap concat (all_below (meaning sectors image))
  where
    long : (b : Bool)
        → length (if b then older_images.meaning (older_label.blocks_in sectors) image else newer_images.meaning (newer_label.blocks_in sectors) image)
        ≡ (if b then older_label.blocks_in sectors else newer_label.blocks_in sectors)
    long true = length-below (older_images.block_of (older_label.blocks_in sectors) image) (older_label.blocks_in sectors)
    long false = length-below (newer_images.block_of image) (newer_label.blocks_in sectors)

-- Under the record of the image each block is found.
older_found : (listing : Listing) (n : ℕ) (image : Image) → is_journal listing ≡ true → IsOf listing image
    → (b : ℕ) → pair_at image (place_by listing n b) ≡ older_images.block_of n image b
older_found (Journal listing) n image is of b = (λ t. pair_at image (place_in n (of t) b)) ∙ found_block n image b
older_found (Pages named) n image is of b = cc

newer_found : (listing : Listing) (n : ℕ) (image : Image) → is_journal listing ≡ false → IsOf listing image
    → (b : ℕ) → pair_at image (place_by listing n b) ≡ newer_images.block_of image b
newer_found (Journal listing) n image isnt of b = cc
newer_found (Pages named) n image isnt of b = λ t. pair_at image (current_at (sym of.1 t) b)

module _ (sectors : ℕ) (image : Image) (view : View) where
  pub older_blocks_found : older_label.is_size sectors ≡ true → sectors ≡ older_layout.sectors_for view.blocks.number
      → is_journal view.listing ≡ true → IsOf view.listing image
      → (b : ℕ) → b < view.blocks.number → found_by view image b ≡ block_in (meaning sectors image) b
  older_blocks_found is size journal of b below =
      older_found view.listing view.blocks.number image journal of b
      ∙ sym (at_below (older_images.block_of view.blocks.number image) view.blocks.number b below)
      ∙ ap (λ m. block_in m b) (older_meaning sectors image is view.blocks.number size)

  pub newer_blocks_found : older_label.is_size sectors ≡ false → sectors ≡ newer_layout.sectors_for view.blocks.number
      → is_journal view.listing ≡ false → IsOf view.listing image
      → (b : ℕ) → b < view.blocks.number → found_by view image b ≡ block_in (meaning sectors image) b
  newer_blocks_found isnt size pages of b below =
      newer_found view.listing view.blocks.number image pages of b
      ∙ sym (at_below (newer_images.block_of image) view.blocks.number b below)
      ∙ ap (λ m. block_in m b) (newer_meaning sectors image isnt view.blocks.number size)

-- How many sectors it has, by its record.
pub older_sectors_of : (view : View) → is_journal view.listing ≡ true → sectors_of view ≡ older_layout.sectors_for view.blocks.number
older_sectors_of view = by view.listing view.blocks.number
  where
    by : (listing : Listing) (n : ℕ) → is_journal listing ≡ true → sectors_for listing n ≡ older_layout.sectors_for n
    by (Journal listing) n is = refl
    by (Pages named) n is = cc

pub newer_sectors_of : (view : View) → is_journal view.listing ≡ false → sectors_of view ≡ newer_layout.sectors_for view.blocks.number
newer_sectors_of view = by view.listing view.blocks.number
  where
    by : (listing : Listing) (n : ℕ) → is_journal listing ≡ false → sectors_for listing n ≡ newer_layout.sectors_for n
    by (Journal listing) n isnt = cc
    by (Pages named) n isnt = refl

-- The save that is under way, by the record and by the image.
pub save_is : (view : View) (sectors : ℕ) (image : Image) → is_journal view.listing ≡ older_label.is_size sectors
    → view.blocks.number ≡ known_blocks sectors → IsOf view.listing image
    → save_by view.listing view.blocks.number ≡ save_in sectors image
save_is view sectors image layout count of = by view.listing (older_label.is_size sectors) layout count of
  where
    by : (listing : Listing) (b : Bool) → is_journal listing ≡ b
        → view.blocks.number ≡ (if b then older_label.blocks_in sectors else newer_label.blocks_in sectors) → IsOf listing image
        → save_by listing view.blocks.number ≡ (if b then count_in (older_label.blocks_in sectors) (record_in image) else None)
    by (Journal listing) true is number here = λ t. count_in (number t) (here t)
    by (Journal listing) false is number here = cc
    by (Pages named) true is number here = cc
    by (Pages named) false is number here = refl

-- Whether the gate is of the record that it names, by the record and by the image.
pub fit_is : (view : View) (sectors : ℕ) (image : Image) → is_journal view.listing ≡ older_label.is_size sectors → IsOf view.listing image
    → fits_by view.listing image ≡ gate_fits_in sectors image
fit_is view sectors image layout of = by view.listing (older_label.is_size sectors) layout of
  where
    by : (listing : Listing) (b : Bool) → is_journal listing ≡ b → IsOf listing image
        → fits_by listing image ≡ (if b then true else newer_images.gate_fits image)
    by (Journal listing) true is here = refl
    by (Journal listing) false is here = cc
    by (Pages named) true is here = cc
    by (Pages named) false is here = ap (is_gate_of (image gate_at)) (sym here.1)

-- How many reads a look takes.
module _ {D : Type 0} (G : Ghosts D) (old new : D) (sectors : ℕ) (image : Image) where
  pub older_looked : (n : ℕ) → older_label.is_size sectors ≡ true → sectors ≡ older_layout.sectors_for n
      → ReadsAtMost G old new (reads_to_list n image + 1) → ReadsAtMost G old new (reads_to_look sectors image)
  older_looked n is size reads =
      subst (λ b. ReadsAtMost G old new (if b then reads_to_list (older_label.blocks_in sectors) image + 1 else 3 * newer_label.blocks_in sectors + 3)) (sym is)
      (subst (λ m. ReadsAtMost G old new (reads_to_list m image + 1)) (sym (older_count n sectors size)) reads)

  pub newer_looked : older_label.is_size sectors ≡ false → ReadsAtMost G old new (3 * newer_label.blocks_in sectors + 3)
      → ReadsAtMost G old new (reads_to_look sectors image)
  newer_looked isnt reads =
      subst (λ b. ReadsAtMost G old new (if b then reads_to_list (older_label.blocks_in sectors) image + 1 else 3 * newer_label.blocks_in sectors + 3)) (sym isnt) reads

-- The same by the layout.
pub size_of_view : (layout : Layout) (n sectors : ℕ) → IsSized layout n sectors → (view : View) → view.blocks.number ≡ n
    → is_journal view.listing ≡ layouts.is_journal layout → sectors ≡ sectors_of view
size_of_view layouts_of.Journal n sectors s view count by = s.size ∙ ap older_layout.sectors_for (sym count) ∙ sym (older_sectors_of view by)
size_of_view layouts_of.Pages n sectors s view count by = s.size ∙ ap newer_layout.sectors_for (sym count) ∙ sym (newer_sectors_of view by)

pub blocks_found : (layout : Layout) (n sectors : ℕ) → IsSized layout n sectors → (image : Image) (view : View) → view.blocks.number ≡ n
    → is_journal view.listing ≡ layouts.is_journal layout → IsOf view.listing image
    → (b : ℕ) → b < view.blocks.number → found_by view image b ≡ block_in (meaning sectors image) b
blocks_found layouts_of.Journal n sectors s image view count by of b below =
    older_blocks_found sectors image view s.told (s.size ∙ ap older_layout.sectors_for (sym count)) by of b below
blocks_found layouts_of.Pages n sectors s image view count by of b below =
    newer_blocks_found sectors image view s.told (s.size ∙ ap newer_layout.sectors_for (sym count)) by of b below

pub looked : {D : Type 0} (G : Ghosts D) (old new : D) (layout : Layout) (n sectors : ℕ) → IsSized layout n sectors → (image : Image)
    → ReadsAtMost G old new (reads_by layout n image) → ReadsAtMost G old new (reads_to_look sectors image)
looked G old new layouts_of.Journal n sectors s image reads = older_looked G old new sectors image n s.told s.size reads
looked G old new layouts_of.Pages n sectors s image reads =
    newer_looked G old new sectors image s.told (subst (λ m. ReadsAtMost G old new (3 * m + 3)) (sym (newer_count n sectors s.size)) reads)

pub looked_few : {D : Type 0} (G : Ghosts D) (old new : D) (layout : Layout) (n sectors : ℕ) → IsSized layout n sectors
    → (layout ≡ layouts_of.Pages → ReadsAtMost G old new (3 * n + 3)) → older_label.is_size sectors ≡ false → ReadsAtMost G old new (3 * newer_label.blocks_in sectors + 3)
looked_few G old new layouts_of.Journal n sectors s reads isnt = absurd (let no : true ≡ false = sym s.told ∙ isnt in cc)
looked_few G old new layouts_of.Pages n sectors s reads isnt = subst (λ m. ReadsAtMost G old new (3 * m + 3)) (sym (newer_count n sectors s.size)) (reads refl)
