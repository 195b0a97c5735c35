-- Layouts 2 and 3: how many sectors their images have, what they ask of a device, and what a write may spoil then.
use Rattle.std.specs.Prelude.{◌≡◌, ◌⊎◌, ℕ, ◌+◌, Bool, true, false, List}
use Rattle.sector_disk.specs.Pages.{InPage}
use Rattle.sector_disk.specs.declared.device.SectorDevice.{Ghosts}
use Rattle.journal.specs.Layout as journal
use Rattle.journal.specs.PageLayout as pages
use Rattle.journal.specs.Sizes.{is_size, is_pages_size}
use Rattle.journal.specs.declared.sizes.Layout.{Layout}
use Rattle.journal.specs.declared.sizes.Layout.TheVariants.{Journal, Pages}

-- whether it is layout 2
abbrev pub is_journal : Layout → Bool
is_journal Journal = true
is_journal Pages = false

-- how many sectors an image of n blocks has
abbrev pub sectors_for : Layout → ℕ → ℕ
sectors_for Journal n = journal.sectors_for n
sectors_for Pages n = pages.sectors_for n

-- whether some image of this layout has so many sectors
abbrev pub has_size : Layout → ℕ → Bool
has_size Journal sectors = is_size sectors
has_size Pages sectors = is_pages_size sectors

-- the label of an image of n blocks
abbrev pub label_of : Layout → ℕ → List ℕ
label_of Journal n = journal.label_of n
label_of Pages n = pages.label_of n

-- whether a device keeps the disk model as this layout asks for it: by sectors, or as it is
abbrev pub asks : {D : Type 0} → Ghosts D → Layout → D → Bool
asks G Journal d = G.keeps_sectors d
asks G Pages d = G.keeps_model d

-- A write of sector k to such a device may spoil sector j: by sectors k alone, and else its page.
abbrev pub Spoils : Layout → (k j : ℕ) → Type 0
Spoils Journal k j = j ≡ k
Spoils Pages k j = InPage k j

-- the same of two sectors in a row
abbrev pub SpoilsPair : Layout → (k j : ℕ) → Type 0
SpoilsPair layout k j = Spoils layout k j ⊎ Spoils layout (k + 1) j
