-- What an image becomes that is made by the layout that its size tells, and what a stop of its making leaves.
use Rattle.std.proofs.Common.{◌≡◌, ◌≢◌, ℕ, ◌+◌, ◌*◌, ◌≤◌, Bool, true, false, List, ◌++◌, length, Result, IsTrue, refl, sym, ◌∙◌, ap, subst, arith, take-append-drop}
use Rattle.std.proofs.lemmas.Result.{on_ok_weaker}
use Rattle.std.specs.Prelude.{if◌then◌else◌, MatchBool, OnOk}
use Rattle.sector_disk.specs.Disk.{Disk, Image, MayLeave}
use Rattle.sector_disk.specs.declared.device.SectorDevice.{Ghosts}
use Rattle.journal.specs.BySize as sized
use Rattle.journal.specs.Calls.{StopsLeave}
use Rattle.journal.specs.Images as journal_images
use Rattle.journal.specs.Images.{blocks_below}
use Rattle.journal.specs.Layout as journal_layout
use Rattle.journal.specs.Layout.{fewest_blocks, most_blocks}
use Rattle.journal.specs.Maps.{block_in}
use Rattle.journal.specs.PageImages as pages_images
use Rattle.journal.specs.PageLayout as pages_layout
use Rattle.journal.specs.Steps.{InSlots}
use Rattle.journal.specs.Suits.{suits}
use Rattle.journal.proofs.Blocks.{at_below, length-below}
use Rattle.journal.proofs.Choices.{at_false, at_true}
use Rattle.journal.proofs.KnownSizes.{newer_count, older_count, size_newer, size_older}
use Rattle.journal.proofs.Suited.{suits_newer, suits_older}
use Rattle.recovery.specs.Formatted as journal_made
use Rattle.recovery.specs.Homes.{HasHomesOf}
use Rattle.recovery.specs.Label.{blocks_in, is_size}
use Rattle.recovery.specs.Making as making
use Rattle.recovery.specs.Making.{Carries}
use Rattle.recovery.specs.declared.fault.UpgradeFault.{UpgradeFault}
use Rattle.recovery.proofs.Formats as journal_formats
use Rattle.recovery.proofs.HomesMade.{AreBytes, making_homes}
use Rattle.shadow.specs.Formatted as pages_made
use Rattle.shadow.specs.Label as pages_label
use Rattle.shadow.specs.Places.{HasNamed}
use Rattle.shadow.proofs.Formats as pages_formats
use Rattle.shadow.proofs.Formats.{AreBlocks}
use Rattle.shadow.proofs.Makings.{filled_as, making_places, places_made}
use Rattle.shadow.proofs.Upgrades.{made_stays}
use Rattle.journal.specs.Layouts.{sectors_for}
use Rattle.journal.specs.declared.sizes.Layout.{Layout}
use Rattle.journal.specs.declared.sizes.Layout.TheVariants.{Journal, Pages}
use Rattle.journal.specs.declared.sizes.Size.{Size}
use Rattle.image_care.specs.Made.{HoldsBlocks, IsMade, IsWhole, KeepsRest, MakingLeaves, writes_to_make}

-- The first blocks that are given.
module _ (n : ℕ) (given : ℕ → List ℕ) where
  are_bytes : AreBytes n given (blocks_below given n)
  are_bytes = (length-below given n, at_below given n)

  are_blocks : AreBlocks n given (blocks_below given n)
  are_blocks = (length-below given n, at_below given n)

  homes_whole : (disk : Disk) → making.IsMade (journal_layout.label_of n) (HasHomesOf n given) disk → IsWhole n (blocks_below given n) disk
  homes_whole disk made = record {
    held = record {
      gate = made.filled.gate;
      listed = made.filled.listed;
      homes = λ b below.
          (λ t. (made.filled.homes b below).first t ++ (made.filled.homes b below).second t)
          ∙ take-append-drop 512 (given b) ∙ sym (at_below given n b below);
    };
    label = made.labelled;
    synced = made.synced;
  }

  places_filled : (image : Image) → pages_made.IsFilled n given image → pages_made.IsFilled n (block_in (blocks_below given n)) image
  places_filled image filled = filled_as n given (block_in (blocks_below given n)) (λ b below. sym (at_below given n b below)) image filled

-- An image of layout 2 that holds blocks means them, once it has its label.
module _ (n : ℕ) (many : fewest_blocks ≤ n) (few : n ≤ most_blocks) (blocks : List (List ℕ)) (long : length blocks ≡ n) where
  held_means : (image : Image) → HoldsBlocks n blocks image → (c : Image) → c 0 ≡ journal_layout.label_of n → ((k : ℕ) → k ≢ 0 → c k ≡ image k)
      → journal_images.Means blocks c
  held_means image held = journal_formats.filled_means n many few image image
      (record { gate = held.gate; listed = held.listed; homes = λ k high low. refl })
      blocks (long, λ b below. sym (held.homes b below))

  whole_means : (disk : Disk) → MayLeave disk disk.content → IsWhole n blocks disk → (c : Image) → MayLeave disk c → journal_images.Means blocks c
  whole_means disk present whole c may =
      let same : (k : ℕ) → c k ≡ disk.content k = λ k. may k (whole.synced k) ∙ sym (present k (whole.synced k)) in
      held_means disk.content whole.held c (same 0 ∙ whole.label) (λ k other. same k)

-- How many sectors a layout says.
pub of_journal : (layout : Layout) (n sectors : ℕ) → layout ≡ Journal → sectors ≡ sectors_for layout n → sectors ≡ journal_layout.sectors_for n
of_journal layout n sectors is size = size ∙ ap (λ l. sectors_for l n) is

pub of_pages : (layout : Layout) (n sectors : ℕ) → layout ≡ Pages → sectors ≡ sectors_for layout n → sectors ≡ pages_layout.sectors_for n
of_pages layout n sectors is size = size ∙ ap (λ l. sectors_for l n) is

-- How many writes lay the blocks, what goes before and after them, and the label.
homes_writes : (n : ℕ) → 2 * n + 2 + 0 + 2 ≡ 2 * n + 4
homes_writes n = omega arith

places_writes : (n : ℕ) → 4 * n + 0 + 3 + 2 ≡ 4 * n + 5
places_writes n = omega arith

-- What is made by layout 2 is made by the layout that the size tells, where it tells that one.
module _ (sectors n : ℕ) (is : is_size sectors ≡ true) (size : sectors ≡ journal_layout.sectors_for n) where
  number : n ≡ blocks_in sectors
  number = sym (older_count n sectors size)

  module _ (blocks : List (List ℕ)) where
    journal_is_made : (disk : Disk) → IsWhole n blocks disk → IsMade sectors blocks disk
    journal_is_made disk whole = record {
      held = at_true (is_size sectors) (HoldsBlocks (blocks_in sectors) blocks disk.content)
          (pages_made.IsFilled (pages_label.blocks_in sectors) (block_in blocks) disk.content) is (subst (λ k. HoldsBlocks k blocks disk.content) number whole.held);
      label = whole.label ∙ ap journal_layout.label_of number
          ∙ sym (ap (λ b. if b then journal_layout.label_of (blocks_in sectors) else pages_layout.label_of (pages_label.blocks_in sectors)) is);
      synced = whole.synced;
    }

    journal_means : (c : Image) → journal_images.Means blocks c → sized.Means sectors blocks c
    journal_means c means = at_true (is_size sectors) (journal_images.Means blocks c) (pages_images.Means blocks c) is means

    journal_leaves : (disk : Disk) (c : Image) → journal_made.MakingLeaves n blocks disk c → MakingLeaves sectors blocks disk c
    journal_leaves disk c leaves = at_true (is_size sectors) (journal_made.MakingLeaves (blocks_in sectors) blocks disk c)
        (pages_made.MakingLeaves (pages_label.blocks_in sectors) blocks disk c) is (subst (λ k. journal_made.MakingLeaves k blocks disk c) number leaves)

  journal_rest : (old new : Image) → journal_made.KeepsSlots n old new → KeepsRest sectors old new
  journal_rest old new keeps = at_true (is_size sectors) (journal_made.KeepsSlots (blocks_in sectors) old new) (pages_made.KeepsRest old new) is
      (subst (λ k. journal_made.KeepsSlots k old new) number keeps)

  journal_writes : 2 * n + 2 + 0 + 2 ≡ writes_to_make sectors
  journal_writes = homes_writes n ∙ (λ t. 2 * number t + 4) ∙ sym (ap (λ b. if b then 2 * blocks_in sectors + 4 else 4 * pages_label.blocks_in sectors + 5) is)

-- The same by layout 3.
module _ (sectors n : ℕ) (isnt : is_size sectors ≡ false) (size : sectors ≡ pages_layout.sectors_for n) where
  places : n ≡ pages_label.blocks_in sectors
  places = sym (newer_count n sectors size)

  module _ (blocks : List (List ℕ)) where
    pages_is_made : (disk : Disk) → pages_made.IsMade n (block_in blocks) disk → IsMade sectors blocks disk
    pages_is_made disk made = record {
      held = at_false (is_size sectors) (HoldsBlocks (blocks_in sectors) blocks disk.content)
          (pages_made.IsFilled (pages_label.blocks_in sectors) (block_in blocks) disk.content) isnt
          (subst (λ k. pages_made.IsFilled k (block_in blocks) disk.content) places made.filled);
      label = made.label ∙ ap pages_layout.label_of places
          ∙ sym (ap (λ b. if b then journal_layout.label_of (blocks_in sectors) else pages_layout.label_of (pages_label.blocks_in sectors)) isnt);
      synced = made.synced;
    }

    pages_means : (c : Image) → pages_images.Means blocks c → sized.Means sectors blocks c
    pages_means c means = at_false (is_size sectors) (journal_images.Means blocks c) (pages_images.Means blocks c) isnt means

    pages_leaves : (disk : Disk) (c : Image) → pages_made.MakingLeaves n blocks disk c → MakingLeaves sectors blocks disk c
    pages_leaves disk c leaves = at_false (is_size sectors) (journal_made.MakingLeaves (blocks_in sectors) blocks disk c)
        (pages_made.MakingLeaves (pages_label.blocks_in sectors) blocks disk c) isnt (subst (λ k. pages_made.MakingLeaves k blocks disk c) places leaves)

  pages_rest : (old new : Image) → pages_made.KeepsRest old new → KeepsRest sectors old new
  pages_rest old new keeps = at_false (is_size sectors) (journal_made.KeepsSlots (blocks_in sectors) old new) (pages_made.KeepsRest old new) isnt keeps

  pages_writes : 4 * n + 0 + 3 + 2 ≡ writes_to_make sectors
  pages_writes = places_writes n ∙ (λ t. 4 * places t + 5) ∙ sym (ap (λ b. if b then 2 * blocks_in sectors + 4 else 4 * pages_label.blocks_in sectors + 5) isnt)

-- What a making by layout 2 leaves is what one by the size leaves, where the size tells that layout.
module _ {B : Type 0} (H : Ghosts B) (new after : B) (size : Size) (is : size.layout ≡ Journal)
    (says : H.sector_count new ≡ sectors_for size.layout size.blocks.number) where
  homes_sectors : H.sector_count new ≡ journal_layout.sectors_for size.blocks.number
  homes_sectors = of_journal size.layout size.blocks.number (H.sector_count new) is says

  homes_size : is_size (H.sector_count new) ≡ true
  homes_size = size_older size.blocks.number (H.sector_count new) size.blocks.many size.blocks.few homes_sectors

  homes_keep : IsTrue (suits H new) → IsTrue (H.keeps_sectors new)
  homes_keep = suits_older H new homes_size

  module _ {T E : Type 0} (result : Result T E) where
    pub homes_rest : (IsTrue (H.keeps_sectors new) → OnOk result ((k : ℕ) → InSlots size.blocks.number k → (H.disk after).content k ≡ (H.disk new).content k))
        → IsTrue (suits H new) → OnOk result (KeepsRest (H.sector_count new) (H.disk new).content (H.disk after).content)
    homes_rest left keeps = on_ok_weaker result
        (λ same. journal_rest (H.sector_count new) size.blocks.number homes_size homes_sectors (H.disk new).content (H.disk after).content
        (λ k high low. same k (high, low)))
        (left (homes_keep keeps))

    module _ (given : ℕ → List ℕ)
        (made : IsTrue (H.keeps_sectors new) → OnOk result (making.IsMade (journal_layout.label_of size.blocks.number) (HasHomesOf size.blocks.number given) (H.disk after))) where
      pub homes_made : IsTrue (suits H new) → OnOk result (IsMade (H.sector_count new) (blocks_below given size.blocks.number) (H.disk after))
      homes_made keeps = on_ok_weaker result
          (λ laid. journal_is_made (H.sector_count new) size.blocks.number homes_size homes_sectors (blocks_below given size.blocks.number) (H.disk after)
          (homes_whole size.blocks.number given (H.disk after) laid))
          (made (homes_keep keeps))

      pub homes_mean : H.keeps_sectors after ≡ H.keeps_sectors new → (IsTrue (H.keeps_sectors after) → MayLeave (H.disk after) (H.disk after).content)
          → IsTrue (suits H new)
          → OnOk result ((c : Image) → MayLeave (H.disk after) c → sized.Means (H.sector_count new) (blocks_below given size.blocks.number) c)
      homes_mean units present keeps = on_ok_weaker result
          (λ laid c may. journal_means (H.sector_count new) size.blocks.number homes_size homes_sectors (blocks_below given size.blocks.number) c
          (whole_means size.blocks.number size.blocks.many size.blocks.few (blocks_below given size.blocks.number) (length-below given size.blocks.number)
          (H.disk after) (present (subst IsTrue (sym units) (homes_keep keeps))) (homes_whole size.blocks.number given (H.disk after) laid) c may))
          (made (homes_keep keeps))

  pub homes_leave : (given : ℕ → List ℕ) → ((k : ℕ) → IsTrue (H.keeps_sectors new) → (H.disk new).unit k ≡ k)
      → (IsTrue (H.keeps_sectors new) → StopsLeave H new after
      (making.MakingLeaves (journal_layout.label_of size.blocks.number) (HasHomesOf size.blocks.number given) (H.disk new)))
      → IsTrue (suits H new) → StopsLeave H new after (MakingLeaves (H.sector_count new) (blocks_below given size.blocks.number) (H.disk new))
  homes_leave given alone stops keeps c since =
      journal_leaves (H.sector_count new) size.blocks.number homes_size homes_sectors (blocks_below given size.blocks.number) (H.disk new) c
      (making_homes size.blocks.number size.blocks.many size.blocks.few given (blocks_below given size.blocks.number) (are_bytes size.blocks.number given)
      (H.disk new) (λ k. alone k (homes_keep keeps)) c (stops (homes_keep keeps) c since))

  pub homes_carry : {A T : Type 0} {result : Result T UpgradeFault} (G : Ghosts A) (old old' : A)
      → Carries G H old old' new after (2 * size.blocks.number + 2 + 0 + 2) 4 1 result
      → Carries G H old old' new after (writes_to_make (H.sector_count new)) 4 1 result
  homes_carry {result = result} G old old' carries =
      subst (λ writes. Carries G H old old' new after writes 4 1 result) (journal_writes (H.sector_count new) size.blocks.number homes_size homes_sectors) carries

-- The same of layout 3.
module _ {B : Type 0} (H : Ghosts B) (new after : B) (size : Size) (is : size.layout ≡ Pages)
    (says : H.sector_count new ≡ sectors_for size.layout size.blocks.number) where
  places_sectors : H.sector_count new ≡ pages_layout.sectors_for size.blocks.number
  places_sectors = of_pages size.layout size.blocks.number (H.sector_count new) is says

  no_homes : is_size (H.sector_count new) ≡ false
  no_homes = size_newer size.blocks.number (H.sector_count new) places_sectors

  places_keep : IsTrue (suits H new) → IsTrue (H.keeps_model new)
  places_keep = suits_newer H new no_homes

  module _ {T E : Type 0} (result : Result T E) where
    pub places_rest : (IsTrue (H.keeps_model new) → OnOk result (pages_made.KeepsRest (H.disk new).content (H.disk after).content))
        → IsTrue (suits H new) → OnOk result (KeepsRest (H.sector_count new) (H.disk new).content (H.disk after).content)
    places_rest left keeps = on_ok_weaker result
        (pages_rest (H.sector_count new) size.blocks.number no_homes places_sectors (H.disk new).content (H.disk after).content)
        (left (places_keep keeps))

    module _ (given : ℕ → List ℕ) (listing : List ℕ)
        (made : IsTrue (H.keeps_model new)
        → OnOk result (making.IsMade (pages_layout.label_of size.blocks.number) (HasNamed size.blocks.number given listing) (H.disk after))) where
      pub places_are_made : IsTrue (suits H new) → OnOk result (IsMade (H.sector_count new) (blocks_below given size.blocks.number) (H.disk after))
      places_are_made keeps = on_ok_weaker result
          (λ laid. pages_is_made (H.sector_count new) size.blocks.number no_homes places_sectors (blocks_below given size.blocks.number) (H.disk after)
          (record { filled = places_filled size.blocks.number given (H.disk after).content laid.filled.filled; label = laid.labelled; synced = laid.synced }))
          (made (places_keep keeps))

      pub places_mean : H.keeps_model after ≡ H.keeps_model new → (IsTrue (H.keeps_model after) → MayLeave (H.disk after) (H.disk after).content)
          → IsTrue (suits H new)
          → OnOk result ((c : Image) → MayLeave (H.disk after) c → sized.Means (H.sector_count new) (blocks_below given size.blocks.number) c)
      places_mean model present keeps = on_ok_weaker result
          (λ laid c may. pages_means (H.sector_count new) size.blocks.number no_homes places_sectors (blocks_below given size.blocks.number) c
          (made_stays size.blocks.number (blocks_below given size.blocks.number) size.blocks.many size.blocks.few given (are_blocks size.blocks.number given)
          (H.disk after) (present (subst IsTrue (sym model) (places_keep keeps))) (places_made size.blocks.number given listing (H.disk after) laid) c may))
          (made (places_keep keeps))

  pub places_leave : (given : ℕ → List ℕ) (listing : List ℕ)
      → (IsTrue (H.keeps_model new) → StopsLeave H new after
      (making.MakingLeaves (pages_layout.label_of size.blocks.number) (HasNamed size.blocks.number given listing) (H.disk new)))
      → IsTrue (suits H new) → StopsLeave H new after (MakingLeaves (H.sector_count new) (blocks_below given size.blocks.number) (H.disk new))
  places_leave given listing stops keeps c since =
      pages_leaves (H.sector_count new) size.blocks.number no_homes places_sectors (blocks_below given size.blocks.number) (H.disk new) c
      (making_places size.blocks.number size.blocks.many size.blocks.few given (blocks_below given size.blocks.number) (are_blocks size.blocks.number given)
      listing (H.disk new) c (stops (places_keep keeps) c since))

  pub places_carry : {A T : Type 0} {result : Result T UpgradeFault} (G : Ghosts A) (old old' : A)
      → Carries G H old old' new after (4 * size.blocks.number + 0 + 3 + 2) 4 1 result
      → Carries G H old old' new after (writes_to_make (H.sector_count new)) 4 1 result
  places_carry {result = result} G old old' carries =
      subst (λ writes. Carries G H old old' new after writes 4 1 result) (pages_writes (H.sector_count new) size.blocks.number no_homes places_sectors) carries

-- Where nothing was done, what could be left before is left.
pub nothing_made : (sectors : ℕ) (blocks : List (List ℕ)) (disk : Disk) (c : Image) → MayLeave disk c → MakingLeaves sectors blocks disk c
nothing_made sectors blocks disk c may = either (is_size sectors)
  where
    n : ℕ
    n = blocks_in sectors

    m : ℕ
    m = pages_label.blocks_in sectors

    either : (b : Bool) → MatchBool b (journal_made.MakingLeaves n blocks disk c) (pages_made.MakingLeaves m blocks disk c)
    either true = journal_formats.making n disk blocks c (journal_formats.half_now n disk c may)
    either false = pages_formats.making m disk blocks c (pages_formats.half_now m disk c may)
