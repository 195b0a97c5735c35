-- What a copy holds.
use Rattle.std.proofs.Common.{◌≡◌, ⊎_elim, ℕ, ◌-◌, ◌<◌, ◌≤◌, Bool, true, false, cond, List, [], length, replicate, Some, None, sym, ◌∙◌, ap, subst, arith}
use Rattle.std.specs.Prelude.{◌&&◌, not, if◌then◌else◌, nat_le}
use Rattle.std.proofs.lemmas.Bool.{cases_lt}
use Rattle.std.proofs.lemmas.Bool.Decides.{nat_tests}
use Rattle.std.proofs.lemmas.List.{length-append, length-replicate, get_or_append_left, get_or-append_right, get_or-replicate}
use Rattle.sector_disk.specs.Disk.{Disk, Image}
use Rattle.journal.specs.Images as journal_images
use Rattle.journal.specs.Images.{blocks_below}
use Rattle.journal.specs.Layout.{fewest_blocks, most_blocks}
use Rattle.journal.specs.Maps.{block_in}
use Rattle.journal.specs.PageImages as pages_images
use Rattle.journal.proofs.Blocks.{at_below, length-below, same_list}
use Rattle.journal.proofs.KnownSizes.{newer_blocks, older_blocks, size_newer, size_older}
use Rattle.recovery.specs.Formatted.{blank_blocks}
use Rattle.recovery.specs.Label as journal
use Rattle.recovery.specs.Opened.{first_of}
use Rattle.recovery.specs.Upgraded.{of_old}
use Rattle.recovery.specs.declared.fault.OpenFault.TheVariants.{BadSize}
use Rattle.recovery.specs.declared.fault.UpgradeFault.TheVariants.{Old, New}
use Rattle.shadow.specs.Label as pages
use Rattle.shadow.specs.Label.{is_known_size}
use Rattle.shadow.specs.Upgraded.{known_blocks}
use Rattle.stores.specs.Images.{meaning}
use Rattle.journal.specs.Layouts.{has_size, is_journal, sectors_for}
use Rattle.stores.specs.Opened.{image_refusal}
use Rattle.journal.specs.declared.sizes.Layout.{Layout}
use Rattle.journal.specs.declared.sizes.Layout.TheVariants.{Journal, Pages}
use Rattle.image_care.specs.Copied.{copied_blocks, copy_refusal, copy_size_refusal, grown, is_size_like}
use Rattle.image_care.specs.Taken.{given_by}
use Rattle.image_care.specs.View.{found_by}
use Rattle.image_care.specs.declared.view.View.{View}

-- Blocks grow to as many as are wanted: the lower ones stay, and the upper ones are blank.
module _ (blocks : List (List ℕ)) (n m : ℕ) (long : length blocks ≡ n) (within : n ≤ m) where
  pub length-grown : length (grown m blocks) ≡ m
  length-grown =
      length-append blocks (blank_blocks (m - length blocks))
      ∙ omega (arith, within, long, length-replicate (m - length blocks) (replicate {A = ℕ} 1024 32))

  pub lower : (b : ℕ) → b < n → block_in (grown m blocks) b ≡ block_in blocks b
  lower b below = get_or_append_left blocks (blank_blocks (m - length blocks)) [] b (omega (arith, below, long))

  pub upper : (b : ℕ) → n ≤ b → b < m → block_in (grown m blocks) b ≡ replicate 1024 32
  upper b above below =
      get_or-append_right blocks (blank_blocks (m - length blocks)) n b [] long above
      ∙ get_or-replicate (m - length blocks) (b - n) (replicate 1024 32) [] (omega (arith, above, below, long))

-- An image means as many blocks as its size tells.
pub length-meaning : (sectors : ℕ) (image : Image) → length (meaning sectors image) ≡ known_blocks sectors
length-meaning sectors image = long (journal.is_size sectors)
  where
    long : (b : Bool)
        → length (if b then journal_images.meaning (journal.blocks_in sectors) image else pages_images.meaning (pages.blocks_in sectors) image)
        ≡ (if b then journal.blocks_in sectors else pages.blocks_in sectors)
    long true = length-below (journal_images.block_of (journal.blocks_in sectors) image) (journal.blocks_in sectors)
    long false = length-below (pages_images.block_of image) (pages.blocks_in sectors)

-- What a view gives, of the blocks that it has and past its last one.
module _ (view : View) (image : Image) where
  given_below : (b : ℕ) → b < view.blocks.number → given_by view image b ≡ found_by view image b
  given_below b below =
      let inside : nat_le view.blocks.number b ≡ false = grind (arith, nat_tests) in
      ap (λ x. cond x (replicate 1024 32) (found_by view image b)) inside

  given_above : (b : ℕ) → view.blocks.number ≤ b → given_by view image b ≡ replicate 1024 32
  given_above b above =
      let outside : nat_le view.blocks.number b ≡ true = grind (arith, nat_tests) in
      ap (λ x. cond x (replicate 1024 32) (found_by view image b)) outside

-- Where a view finds what an image means, it gives the blocks that grow from those.
given_copied : (view : View) (sectors m : ℕ) (image : Image) → view.blocks.number ≡ known_blocks sectors → known_blocks sectors ≤ m
    → ((b : ℕ) → b < view.blocks.number → found_by view image b ≡ block_in (meaning sectors image) b)
    → blocks_below (given_by view image) m ≡ grown m (meaning sectors image)
given_copied view sectors m image count within found =
    let blocks = meaning sectors image in
    let n = known_blocks sectors in
    let long = length-meaning sectors image in
    let grows = length-grown blocks n m long within in
    same_list (blocks_below (given_by view image) m) (grown m blocks) (length-below (given_by view image) m ∙ sym grows)
    (λ b below.
    let here : b < m = subst (λ k. b < k) grows below in
    at_below (given_by view image) m b here
    ∙ ⊎_elim
    (λ low. given_below view image b low ∙ found b low ∙ sym (lower blocks n m long within b (omega (arith, low, count))))
    (λ high. given_above view image b high ∙ sym (upper blocks n m long within b (omega (arith, high, count)) here))
    (cases_lt b view.blocks.number))

-- Where a view finds what an image means, it gives the blocks of a copy, after as before it.
pub copy_blocks : (view : View) (from to n : ℕ) (old now : Disk) → view.blocks.number ≡ known_blocks from → n ≡ known_blocks to
    → known_blocks from ≤ known_blocks to → now ≡ old
    → ((b : ℕ) → b < view.blocks.number → found_by view old.content b ≡ block_in (meaning from old.content) b)
    → blocks_below (given_by view now.content) n ≡ copied_blocks from to old.content
copy_blocks view from to n old now count is within same found =
    (λ t. blocks_below (given_by view (same t).content) (is t)) ∙ given_copied view from (known_blocks to) old.content count within found

-- An image has as many blocks as the number of its sectors tells, by whichever layout.
pub number_known : (layout : Layout) (n sectors : ℕ) → fewest_blocks ≤ n → n ≤ most_blocks → sectors ≡ sectors_for layout n → n ≡ known_blocks sectors
number_known Journal n sectors many few size = older_blocks n sectors (size_older n sectors many few size) size
number_known Pages n sectors many few size = newer_blocks n sectors (size_newer n sectors size) size

-- Of one layout a device of more sectors has an image of more blocks.
pub grows : (layout : Layout) (n m old new : ℕ) → old ≡ sectors_for layout n → new ≡ sectors_for layout m → old ≤ new → n ≤ m
grows Journal n m old new from to larger = omega (arith, from, to, larger)
grows Pages n m old new from to larger = omega (arith, from, to, larger)

-- Which size the new image has to have, the layout of the old one tells.
pub like_layout : (layout : Layout) (old new : ℕ) → is_journal layout ≡ journal.is_size old → has_size layout new ≡ is_size_like old new
like_layout Journal old new is = ap (λ b. if b then journal.is_size new else pages.is_size new) is
like_layout Pages old new is = ap (λ b. if b then journal.is_size new else pages.is_size new) is

-- What the sizes alone decide.
module _ (old new : ℕ) where
  pub old_unknown : is_known_size old ≡ false → copy_size_refusal old new ≡ Some (Old BadSize)
  old_unknown none = ap (λ b. cond (not b) (Some (Old BadSize)) (cond (not (is_size_like old new && nat_le old new)) (Some (New BadSize)) None)) none

  module _ (known : is_known_size old ≡ true) where
    known_then : copy_size_refusal old new ≡ cond (not (is_size_like old new && nat_le old new)) (Some (New BadSize)) None
    known_then = ap (λ b. cond (not b) (Some (Old BadSize)) (cond (not (is_size_like old new && nat_le old new)) (Some (New BadSize)) None)) known

    pub new_unlike : is_size_like old new ≡ false → copy_size_refusal old new ≡ Some (New BadSize)
    new_unlike unlike = known_then ∙ ap (λ b. cond (not (b && nat_le old new)) (Some (New BadSize)) None) unlike

    module _ (like : is_size_like old new ≡ true) where
      like_then : copy_size_refusal old new ≡ cond (not (nat_le old new)) (Some (New BadSize)) None
      like_then = known_then ∙ ap (λ b. cond (not (b && nat_le old new)) (Some (New BadSize)) None) like

      pub new_smaller : new < old → copy_size_refusal old new ≡ Some (New BadSize)
      new_smaller smaller =
          let short : nat_le old new ≡ false = grind (arith, nat_tests) in
          like_then ∙ ap (λ b. cond (not b) (Some (New BadSize)) None) short

      pub sizes_good : old ≤ new → copy_size_refusal old new ≡ None
      sizes_good larger =
          let long : nat_le old new ≡ true = grind (arith, nat_tests) in
          like_then ∙ ap (λ b. cond (not b) (Some (New BadSize)) None) long

-- The sizes are good, so the old image decides.
pub copy_refused : (old new : ℕ) (image : Image) → copy_size_refusal old new ≡ None → copy_refusal old new image ≡ of_old (image_refusal old image)
copy_refused old new image none = ap (λ r. first_of r (of_old (image_refusal old image))) none
