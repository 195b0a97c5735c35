-- What a salvage takes of an image is what can be had of it.
use Rattle.std.proofs.Common.{◌≡◌, ℕ, ◌+◌, ◌*◌, ◌<◌, ◌≤◌, Bool, true, false, cond, List, replicate, Some, None, nat_eq, refl, sym, ◌∙◌, ap, subst, arith}
use Rattle.std.specs.Prelude.{◌&&◌, not, nat_le, if◌then◌else◌}
use Rattle.std.specs.Cmp.Lexicographic.{pointwise}
use Rattle.std.proofs.lemmas.Bool.Decides.{Decides-eqb}
use Rattle.std.proofs.lemmas.Slice.Eq.{slice_eq-Decides}
use Rattle.sector_disk.specs.Disk.{Image}
use Rattle.journal.specs.Images as journal_images
use Rattle.journal.specs.Images.{blocks_below, home_of, is_damaged, is_true_record, slot_of}
use Rattle.journal.specs.Layout.{gate_open, listed, most_blocks}
use Rattle.journal.specs.PageImages as pages_images
use Rattle.journal.specs.PageImages.{IsWhole, current_of, current_tag, free_of, record_of}
use Rattle.journal.specs.PageLayout.{current_at, free_at}
use Rattle.journal.specs.Tags.{tag_of}
use Rattle.journal.proofs.Blocks.{same_below}
use Rattle.journal.proofs.Choices.{from_false, from_true}
use Rattle.recovery.specs.Found.{found_in}
use Rattle.recovery.specs.Label as journal
use Rattle.recovery.specs.Making.{reads_below}
use Rattle.recovery.specs.Opened.{damage_refusal}
use Rattle.recovery.proofs.Recoveries.{not_damaged}
use Rattle.shadow.specs.Label as pages
use Rattle.shadow.specs.Upgraded.{known_blocks}
use Rattle.stores.specs.Images.{meaning}
use Rattle.image_care.specs.Examined.{record_in, reads_to_list}
use Rattle.image_care.specs.Salvaged.{IsUndamaged, reads_to_salvage, salvaged_block, salvaged_blocks, standing_in}
use Rattle.image_care.specs.Standing as standing
use Rattle.image_care.specs.Standing.{holds_whole, is_nowhere, is_other, reads_to_take, salvaged_under, standing_of, standing_under}
use Rattle.image_care.specs.Taken.{IsBest, Notes, reads_by, reads_under, stands_by, stands_under, taken_by, taken_under, true_record_in}
use Rattle.image_care.specs.View.{is_journal}
use Rattle.image_care.specs.declared.pages.standing.Standing.TheVariants.{Current}
use Rattle.image_care.specs.declared.view.Listing.{Listing}
use Rattle.image_care.specs.declared.view.Listing.TheVariants.{Journal, Pages}
use Rattle.image_care.specs.declared.view.View.{View}
use Rattle.image_care.proofs.Takings.{blocks_taken, inside, journal_reads, pages_reads, reads_taken, stands_below}

-- What is found by a true record is what a salvage takes.
journal_taken : (n : ℕ) (image : Image) → blocks_below (found_in n (true_record_in n image) image) n ≡ blocks_below (salvaged_block n image) n
journal_taken n image = same_below (found_in n (true_record_in n image) image) (salvaged_block n image) n (λ b below. one b (gate_open (image 1) && is_true_record n (image 2) image) (listed (image 2) b) refl)
  where
    by_listed : (b : ℕ) (lists : Bool) → listed (image 2) b ≡ lists
        → found_in n (Some (image 2)) image b ≡ cond lists (slot_of image b) (home_of n image b)
    by_listed b true is = cc
    by_listed b false is = cc

    one : (b : ℕ) (is_true lists : Bool) → listed (image 2) b ≡ lists
        → found_in n (cond is_true (Some (image 2)) None) image b ≡ cond (is_true && lists) (slot_of image b) (home_of n image b)
    one b true lists is = by_listed b lists is
    one b false lists is = refl

-- What is taken under the best record, where each block stands, and how many reads that takes, by the layout that the size tells.
module _ (sectors : ℕ) (image : Image) where
  blocks_under : (listing : Listing) (b : Bool) → is_journal listing ≡ b → (n : ℕ) → n ≡ (if b then journal.blocks_in sectors else pages.blocks_in sectors)
      → IsBest listing n image → blocks_below (taken_under listing n image) n
      ≡ (if b then blocks_below (salvaged_block (journal.blocks_in sectors) image) (journal.blocks_in sectors) else standing.salvaged_blocks (pages.blocks_in sectors) image)
  blocks_under (Journal listing) true is n count best =
      (λ t. blocks_below (found_in n (best t) image) n) ∙ journal_taken n image ∙ (λ t. blocks_below (salvaged_block (count t) image) (count t))
  blocks_under (Journal listing) false is n count best = cc
  blocks_under (Pages named) true is n count best = cc
  blocks_under (Pages named) false is n count best = λ t. blocks_below (salvaged_under (sym best t) image) (count t)

  standing_at : (listing : Listing) (b : Bool) → is_journal listing ≡ b → (n : ℕ) → IsBest listing n image
      → (k : ℕ) → stands_under listing image k ≡ (if b then Current else standing_of image k)
  standing_at (Journal listing) true is n best k = refl
  standing_at (Journal listing) false is n best k = cc
  standing_at (Pages named) true is n best k = cc
  standing_at (Pages named) false is n best k = λ t. standing_under (sym best t) image k

  reads_at : (listing : Listing) (b : Bool) → is_journal listing ≡ b → (n : ℕ) → n ≡ (if b then journal.blocks_in sectors else pages.blocks_in sectors)
      → IsBest listing n image → (x y z : ℕ) → y ≤ x + (if b then reads_to_list n image else 2) → z ≤ y + reads_below (reads_under listing image) n
      → z ≤ x + (if b then reads_to_list (journal.blocks_in sectors) image + 2 * journal.blocks_in sectors else reads_to_take (pages.blocks_in sectors) (record_of image) image + 2)
  reads_at (Journal listing) true is n count best x y z first later =
      let all : reads_below (reads_under (Journal listing) image) n ≡ 2 * n = journal_reads n in
      subst (λ m. z ≤ x + (reads_to_list m image + 2 * m)) count (omega (arith, first, later, all))
  reads_at (Journal listing) false is n count best x y z first later = cc
  reads_at (Pages named) true is n count best x y z first later = cc
  reads_at (Pages named) false is n count best x y z first later =
      let all : reads_below (reads_under (Pages named) image) n ≡ reads_to_take n named.listing image = pages_reads named.listing image n in
      subst (λ m. z ≤ x + (reads_to_take m (record_of image) image + 2)) count
      (subst (λ l. z ≤ x + (reads_to_take n l image + 2)) (sym best) (omega (arith, first, later, all)))

  -- how many reads find the record alone
  pub unread : (n : ℕ) → n ≡ known_blocks sectors → (x y : ℕ) → y ≤ x + (if journal.is_size sectors then reads_to_list n image else 2)
      → y ≤ x + reads_to_salvage sectors image
  unread n count x y first = at (journal.is_size sectors) count first
    where
      at : (b : Bool) → n ≡ (if b then journal.blocks_in sectors else pages.blocks_in sectors) → y ≤ x + (if b then reads_to_list n image else 2)
          → y ≤ x + (if b then reads_to_list (journal.blocks_in sectors) image + 2 * journal.blocks_in sectors
          else reads_to_take (pages.blocks_in sectors) (record_of image) image + 2)
      at true is found = subst (λ m. y ≤ x + (reads_to_list m image + 2 * m)) is (omega (arith, found))
      at false is found = omega (arith, found)

  module _ (view : View) (layout : is_journal view.listing ≡ journal.is_size sectors) (count : view.blocks.number ≡ known_blocks sectors)
      (best : IsBest view.listing view.blocks.number image) where
    pub best_blocks : blocks_below (taken_by view image) view.blocks.number ≡ salvaged_blocks sectors image
    best_blocks = blocks_taken view image ∙ blocks_under view.listing (journal.is_size sectors) layout view.blocks.number count best

    pub best_stands : (b : ℕ) → b < view.blocks.number → stands_by view image b ≡ standing_in sectors image b
    best_stands b below = stands_below view image b below ∙ standing_at view.listing (journal.is_size sectors) layout view.blocks.number best b

    pub best_reads : (x y z : ℕ) → y ≤ x + (if journal.is_size sectors then reads_to_list view.blocks.number image else 2)
        → z ≤ y + reads_below (reads_by view image) view.blocks.number → z ≤ x + reads_to_salvage sectors image
    best_reads x y z first later = reads_at view.listing (journal.is_size sectors) layout view.blocks.number count best x y z first
        (subst (λ r. z ≤ y + r) (reads_taken view image view.blocks.number (omega arith)) later)

    -- What is noted of them.
    module _ (few : view.blocks.number ≤ most_blocks) (others lost : List ℕ) (notes : Notes view.blocks.number (stands_by view image) others lost)
        (b : ℕ) (below : b < known_blocks sectors) where
      here : b < view.blocks.number
      here = omega (arith, below, count)

      among : b < most_blocks
      among = omega (arith, here, few)

      there : nat_le view.blocks.number b ≡ false
      there = inside view image b here

      pub others_told : listed others b ≡ is_other (standing_in sectors image b)
      others_told = notes.other b among ∙ (λ t. not (there t) && is_other (best_stands b here t))

      pub lost_told : listed lost b ≡ is_nowhere (standing_in sectors image b)
      lost_told = notes.nowhere b among ∙ (λ t. not (there t) && is_nowhere (best_stands b here t))

-- Of an image that isn't damaged a salvage takes what it means.
journal_undamaged : (n : ℕ) (image : Image) → is_damaged n image ≡ false → blocks_below (salvaged_block n image) n ≡ journal_images.meaning n image
journal_undamaged n image whole =
    same_below (salvaged_block n image) (journal_images.block_of n image) n (λ b below. one (gate_open (image 1)) (is_true_record n (image 2) image) (listed (image 2) b) _ _ whole)
  where
    one : (is_open holds lists : Bool) (slot home : List ℕ) → (is_open && not holds) ≡ false
        → cond ((is_open && holds) && lists) slot home ≡ cond (is_open && lists) slot home
    one true true lists slot home clear = refl
    one true false lists slot home clear = cc
    one false holds lists slot home clear = refl

pages_undamaged : (n : ℕ) (image : Image) → IsWhole n image → standing.salvaged_blocks n image ≡ pages_images.meaning n image
pages_undamaged n image whole = same_below (standing.salvaged_block image) (pages_images.block_of image) n taken
  where
    stands : (b : ℕ) → b < n → holds_whole image b (current_at (record_of image) b) ≡ true
    stands b below =
        let tag = current_tag (record_of image) image b in
        let made = tag_of b (current_of (record_of image) image b) in
        (slice_eq-Decides Decides-eqb tag made (pointwise nat_eq tag made) refl).1 (whole.tags b below)

    taken : (b : ℕ) → b < n → standing.salvaged_block image b ≡ pages_images.block_of image b
    taken b below =
        ap (λ x. cond x (current_of (record_of image) image b)
        (cond (holds_whole image b (free_at (record_of image) b)) (free_of (record_of image) image b) (replicate 1024 32))) (stands b below)

pub undamaged_meaning : (sectors : ℕ) (image : Image) → IsUndamaged sectors image → salvaged_blocks sectors image ≡ meaning sectors image
undamaged_meaning sectors image whole = either (journal.is_size sectors) refl
  where
    n : ℕ
    n = journal.blocks_in sectors

    m : ℕ
    m = pages.blocks_in sectors

    either : (b : Bool) → journal.is_size sectors ≡ b → salvaged_blocks sectors image ≡ meaning sectors image
    either true is =
        ap (λ x. cond x (blocks_below (salvaged_block n image) n) (standing.salvaged_blocks m image)) is
        ∙ journal_undamaged n image (from_true (journal.is_size sectors) (is_damaged n image ≡ false) (IsWhole m image) is whole)
        ∙ sym (ap (λ x. cond x (journal_images.meaning n image) (pages_images.meaning m image)) is)
    either false isnt =
        ap (λ x. cond x (blocks_below (salvaged_block n image) n) (standing.salvaged_blocks m image)) isnt
        ∙ pages_undamaged m image (from_false (journal.is_size sectors) (is_damaged n image ≡ false) (IsWhole m image) isnt whole)
        ∙ sym (ap (λ x. cond x (journal_images.meaning n image) (pages_images.meaning m image)) isnt)

-- The record of an image that isn't damaged is a true one.
pub true_record : (n : ℕ) (image : Image) → damage_refusal n image ≡ None → record_in image ≡ true_record_in n image
true_record n image none = one (gate_open (image 1)) (is_true_record n (image 2) image) (not_damaged n image none)
  where
    one : (is_open holds : Bool) → (is_open && not holds) ≡ false → cond is_open (Some (image 2)) None ≡ cond (is_open && holds) (Some (image 2)) None
    one true true clear = refl
    one true false clear = cc
    one false holds clear = refl
