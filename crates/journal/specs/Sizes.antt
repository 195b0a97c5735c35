-- How many sectors tell which layout: an image of layout 2 has an odd number of them, and one of layout 3 an even one.
use Rattle.std.specs.Prelude.{ℕ, ◌-◌, ◌/◌, ◌==◌, ◌&&◌, ◌||◌, nat_le, if◌then◌else◌, Bool}
use Rattle.journal.specs.Layout.{fewest_blocks, most_blocks, sectors_for}
use Rattle.journal.specs.PageLayout as pages

-- how many blocks an image of layout 2 with so many sectors has
abbrev pub blocks_in : ℕ → ℕ
blocks_in sectors = (sectors - 3) / 4

-- whether an image of n blocks, and of no more than so many, has so many sectors
abbrev pub fits_within : ℕ → ℕ → ℕ → Bool
fits_within most n sectors = (nat_le fewest_blocks n && nat_le n most) && (sectors == sectors_for n)

-- whether some image of no more than so many blocks has so many sectors
abbrev pub is_size_within : ℕ → ℕ → Bool
is_size_within most sectors = fits_within most (blocks_in sectors) sectors

-- whether some image of layout 2 has so many sectors
abbrev pub is_size : ℕ → Bool
is_size sectors = is_size_within most_blocks sectors

-- whether an image of layout 3 of n blocks has so many sectors
abbrev pub is_pages_size_for : ℕ → ℕ → Bool
is_pages_size_for n sectors = (nat_le fewest_blocks n && nat_le n most_blocks) && (sectors == pages.sectors_for n)

-- how many blocks an image of layout 3 with so many sectors has
abbrev pub pages_blocks_in : ℕ → ℕ
pages_blocks_in sectors = (sectors - 32) / 16

-- whether some image of layout 3 has so many sectors
abbrev pub is_pages_size : ℕ → Bool
is_pages_size sectors = is_pages_size_for (pages_blocks_in sectors) sectors

-- whether some image of either layout has so many sectors
abbrev pub is_known_size : ℕ → Bool
is_known_size sectors = is_pages_size sectors || is_size sectors

-- how many blocks an image of so many sectors has, by the layout that these tell
abbrev pub known_blocks : ℕ → ℕ
known_blocks sectors = if is_size sectors then blocks_in sectors else pages_blocks_in sectors
