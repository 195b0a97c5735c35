-- An image that was upgraded, of which the old one is one that was opened.
use Rattle.std.proofs.Common.{◌≡◌, ◌∙◌, ℕ, Bool, true, false, IsTrue, None, Some, arith, refl, subst, sym}
use Rattle.std.specs.Prelude.{if◌then◌else◌}
use Rattle.sector_disk.specs.declared.device.SectorDevice.{Ghosts}
use Rattle.journal.specs.Calls.{Proceeds, StopsLeave}
use Rattle.journal.specs.Images.{meaning}
use Rattle.journal.specs.Layout.{sectors_for}
use Rattle.recovery.specs.Formatted.{MakingLeaves}
use Rattle.recovery.specs.Upgraded.{OldLeaves, upgrade_refusal}
use Rattle.std.proofs.lemmas.Bool.Decides.{nat_tests}
use Rattle.journal.specs.Layout.{most_blocks_1}
use Rattle.journal.specs.PageLayout as newer_layout
use Rattle.journal.specs.Sizes.{is_size_within}
use Rattle.recovery.specs.Label.{blocks_in}
use Rattle.shadow.specs.Label.{is_known_size}
use Rattle.shadow.specs.Upgraded.{known_blocks}
use Rattle.command_line.specs.declared.orders.Layout.TheVariants.{Two, Three}
use Rattle.terminal.specs.Failed.{TellsRefusal, UpgradeFails}
use Rattle.terminal.specs.Layout3.{sectors_for_upgrade}
use Rattle.terminal.specs.Layout2 as older
use Rattle.terminal.specs.declared.failure.Failure.{Failure}
use Rattle.terminal.proofs.Becoming.{proceeded}

module _ {D : Type 0} (G : Ghosts D) where
  -- What an upgrade to layout 2 leaves where it failed.
  pub in_part : (failure : Failure) (source source' device after : D) (n : ℕ) → n ≡ older.blocks_on G source → G.sector_count source ≡ sectors_for n
      → G.sector_count device ≡ G.sector_count source → Proceeds G source source' → Proceeds G device after
      → (IsTrue (G.keeps_sectors source) → (n : ℕ) → G.sector_count source ≡ sectors_for n
      → StopsLeave G source source' (OldLeaves n (G.disk source)))
      → (IsTrue (G.keeps_sectors source) → IsTrue (G.keeps_sectors device) → (n : ℕ) → G.sector_count device ≡ sectors_for n
      → StopsLeave G device after (MakingLeaves n (meaning n (G.disk source).content) (G.disk device)))
      → TellsRefusal G G (G.keeps_sectors source)
      (upgrade_refusal (G.sector_count source) (G.sector_count device) ((G.disk source).content 0)) failure source source' device after
      → UpgradeFails G failure source source' device after
  in_part failure source source' device after n are size same reads goes old stops tells =
      let sized : G.sector_count source ≡ sectors_for (older.blocks_on G source) =
      subst (λ (m : ℕ). G.sector_count source ≡ sectors_for m) are size in
      record {
        reads = proceeded G source source' reads;
        old = λ keeps. old keeps (older.blocks_on G source) sized;
        goes = proceeded G device after goes;
        stops = λ keeps keeps'. stops keeps keeps' (older.blocks_on G source) (same ∙ sized);
        tells = tells;
      }

-- ---- the sizes of both images

sized : (old : ℕ) → is_size_within most_blocks_1 old ≡ true → old ≡ sectors_for (blocks_in old)
sized old size = grind (arith, nat_tests, size)

-- By layout 2 the old one has that of an image of layout 1, and the new one as many sectors.
pub sized_older : (old new : ℕ) → sectors_for_upgrade Two old ≡ Some new → (n : ℕ) × (old ≡ sectors_for n) × (new ≡ old)
sized_older old new is = go (is_size_within most_blocks_1 old) refl is
  where
    go : (t : Bool) → is_size_within most_blocks_1 old ≡ t → (if t then Some old else None) ≡ Some new → (n : ℕ) × (old ≡ sectors_for n) × (new ≡ old)
    go true size is = (blocks_in old, sized old size, sym (cc))
    go false size is = absurd cc

-- By layout 3 the new one has that of an image of as many blocks.
pub sized_newer : (old new : ℕ) → sectors_for_upgrade Three old ≡ Some new → new ≡ newer_layout.sectors_for (known_blocks old)
sized_newer old new is = go (is_known_size old) is
  where
    go : (t : Bool) → (if t then Some (newer_layout.sectors_for (known_blocks old)) else None) ≡ Some new → new ≡ newer_layout.sectors_for (known_blocks old)
    go true is = sym cc
    go false is = absurd cc
