-- Pages of eight sectors, within which a device's units lie.
use Rattle.std.specs.Prelude.{◌≡◌, ℕ, ◌/◌}
use Rattle.std.proofs.Common.{sym, ◌∙◌, ap}
use Rattle.sector_disk.specs.Disk.{Disk}

-- sector j lies in the page of sector k
abbrev pub InPage : ℕ → ℕ → Type 0
InPage k j = j / 8 ≡ k / 8

-- Sectors of one unit lie in one page: so a write spoils its own page at most.
abbrev pub IsPaged : Disk → Type 0
IsPaged disk = (j k : ℕ) → disk.unit j ≡ disk.unit k → InPage k j

-- Where a sector is a unit of its own, units lie within pages.
pub paged_by_sectors : (disk : Disk) → ((k : ℕ) → disk.unit k ≡ k) → IsPaged disk
paged_by_sectors disk own j k same = ap (λ i. i / 8) (sym (own j) ∙ same ∙ own k)
