-- Which layout's size a device has.
use Rattle.std.proofs.Common.{◌≡◌, ◌≤◌, ℕ, Bool, true, false, List, Result, Ok, Err, refl, sym, subst, ◌∙◌, ap, arith}
use Rattle.std.specs.Prelude.{◌||◌, IfOk, MatchBool}
use Rattle.std.proofs.lemmas.Bool.Decides.{nat_tests}
use Rattle.sector_disk.specs.declared.device.SectorDevice.{Ghosts}
use Rattle.journal.specs.Images as older_images
use Rattle.journal.specs.Layout.{fewest_blocks, most_blocks}
use Rattle.journal.specs.Layout as older_layout
use Rattle.recovery.specs.Label.{is_size}
use Rattle.recovery.specs.Label as older
use Rattle.journal.specs.PageImages as newer_images
use Rattle.shadow.specs.Label as newer
use Rattle.journal.specs.PageLayout as newer_layout
use Rattle.journal.proofs.KnownSizes.{size_newer, size_older}
use Rattle.hosted.specs.Calls.{LeavesBlocks, LeavesNewer, LeavesOlder, device_after}
use Rattle.hosted.specs.Making.{fits_image}
use Rattle.hosted.specs.declared.refusal.Refusal.{Refusal}

pub sectors_older : (n sectors : ℕ) → older.is_size_for n sectors ≡ true → sectors ≡ older_layout.sectors_for n
sectors_older n sectors is = grind (arith, nat_tests, is)

pub sectors_newer : (n sectors : ℕ) → newer.is_size_for n sectors ≡ true → sectors ≡ newer_layout.sectors_for n
sectors_newer n sectors is = grind (arith, nat_tests, is)

many : (n sectors : ℕ) → older.is_size_for n sectors ≡ true → fewest_blocks ≤ n
many n sectors is = grind (arith, nat_tests, is)

few : (n sectors : ℕ) → older.is_size_for n sectors ≡ true → n ≤ most_blocks
few n sectors is = grind (arith, nat_tests, is)

apart : (a : Bool) → a ≡ true → a ≡ false → ⊥
apart a is isnt = let no : true ≡ false = sym is ∙ isnt in cc

or_false : (a b : Bool) → b ≡ false → (a || b) ≡ a
or_false true b isnt = refl
or_false false b isnt = isnt

-- of a size of layout 2 only that layout counts, and of any other one layout 3
pub older_fits : (n sectors : ℕ) → is_size sectors ≡ true → fits_image n sectors ≡ older.is_size_for n sectors
older_fits n sectors is = or_false (older.is_size_for n sectors) (newer.is_size_for n sectors) (pick (newer.is_size_for n sectors) refl)
  where
    pick : (t : Bool) → newer.is_size_for n sectors ≡ t → newer.is_size_for n sectors ≡ false
    pick true now = absurd (apart (is_size sectors) is (size_newer n sectors (sectors_newer n sectors now)))
    pick false now = now

pub newer_fits : (n sectors : ℕ) → is_size sectors ≡ false → fits_image n sectors ≡ newer.is_size_for n sectors
newer_fits n sectors isnt = ap (λ t. t || newer.is_size_for n sectors) (pick (older.is_size_for n sectors) refl)
  where
    pick : (t : Bool) → older.is_size_for n sectors ≡ t → older.is_size_for n sectors ≡ false
    pick true now = absurd (apart (is_size sectors) (size_older n sectors (many n sectors now) (few n sectors now) (sectors_older n sectors now)) isnt)
    pick false now = now

-- What an image means by its layout it means by its size.
module _ {D : Type 0} (G : Ghosts D) (device : D) (blocks : List (List ℕ)) where
  pub leaves_older : (r : Result D (Refusal × D)) → is_size (G.sector_count device) ≡ true → G.sector_count (device_after r) ≡ G.sector_count device
      → IfOk r (λ after. LeavesOlder G after blocks) → IfOk r (λ after. LeavesBlocks G after blocks)
  leaves_older (Ok after) is same leaves = λ image may.
      subst (λ t. MatchBool t (older_images.Means blocks image) (newer_images.Means blocks image)) (sym (ap is_size same ∙ is)) (leaves image may)
  leaves_older (Err e) is same leaves = tt

  pub leaves_newer : (r : Result D (Refusal × D)) → is_size (G.sector_count device) ≡ false → G.sector_count (device_after r) ≡ G.sector_count device
      → IfOk r (λ after. LeavesNewer G after blocks) → IfOk r (λ after. LeavesBlocks G after blocks)
  leaves_newer (Ok after) isnt same leaves = λ image may.
      subst (λ t. MatchBool t (older_images.Means blocks image) (newer_images.Means blocks image)) (sym (ap is_size same ∙ isnt)) (leaves image may)
  leaves_newer (Err e) isnt same leaves = tt
