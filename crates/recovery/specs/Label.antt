-- Which refusal an image gives: the first condition that holds.
use Rattle.std.specs.Prelude.{ℕ, ◌+◌, ◌*◌, ◌==◌, ◌&&◌, not, nat_eq, if◌then◌else◌, Bool, List, drop, slice_index, codes, Option, Some, None}
use Rattle.std.specs.List.{starts_with, list_all}
use Rattle.journal.specs.Layout.{most_blocks}
use Rattle.journal.specs.Sizes as sizes
use Rattle.recovery.specs.declared.fault.OpenFault.{OpenFault}
use Rattle.recovery.specs.declared.fault.OpenFault.TheVariants.{BadSize, NoLabel, OtherVersion, WrongCount}

-- how many blocks an image of so many sectors has
abbrev pub blocks_in : ℕ → ℕ
blocks_in sectors = sizes.blocks_in sectors

-- whether an image of n blocks, and of no more than so many, has so many sectors
abbrev pub fits_within : ℕ → ℕ → ℕ → Bool
fits_within most n sectors = sizes.fits_within most n sectors

-- whether some image of no more than so many blocks has so many sectors
abbrev pub is_size_within : ℕ → ℕ → Bool
is_size_within most sectors = sizes.is_size_within most sectors

-- whether an image of n blocks has so many sectors
abbrev pub is_size_for : ℕ → ℕ → Bool
is_size_for n sectors = sizes.fits_within most_blocks n sectors

-- whether some image has so many sectors
abbrev pub is_size : ℕ → Bool
is_size sectors = sizes.is_size sectors

-- the name at the beginning, and zeros after the numbers
abbrev pub is_named : List ℕ → Bool
is_named label = starts_with nat_eq label (codes "F83BLOCK") && list_all (λ byte. byte == 0) (drop 12 label)

-- the number in two bytes, the low one first
abbrev pub number_at : List ℕ → ℕ → ℕ
number_at bytes at = slice_index bytes at + 256 * slice_index bytes (at + 1)

-- the refusal of a label in an image of n blocks by a layout of this version
abbrev pub label_refusal_by : ℕ → ℕ → List ℕ → Option OpenFault
label_refusal_by version n label =
    if not (is_named label) then Some NoLabel
    else (if not (number_at label 8 == version) then Some OtherVersion
    else (if not (number_at label 10 == n) then Some WrongCount else None))

-- the refusal of a label in an image of n blocks
abbrev pub label_refusal : ℕ → List ℕ → Option OpenFault
label_refusal n label = label_refusal_by 2 n label

-- the refusal of an image with so many sectors and this label
abbrev pub refusal : ℕ → List ℕ → Option OpenFault
refusal sectors label = if not (is_size sectors) then Some BadSize else label_refusal (blocks_in sectors) label
