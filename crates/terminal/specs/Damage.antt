-- Which blocks of a damaged image of layout 3 are told.
use Rattle.std.specs.Prelude.{ℕ, zero, suc, if◌then◌else◌, List, [], ◌++◌, codes}
use Rattle.std.specs.Fmt.{decimal}
use Rattle.sector_disk.specs.Disk.{Image}
use Rattle.shadow.specs.Label.{blocks_in, is_size}
use Rattle.image_care.specs.Standing.{standing_of}
use Rattle.image_care.specs.declared.pages.standing.Standing.{Standing}
use Rattle.image_care.specs.declared.pages.standing.Standing.TheVariants.{Current, Other, Nowhere}
use Rattle.terminal.specs.Checked.{line}

-- what is told of block b, where it is damaged in the place that counts
abbrev pub damage_line : (b : ℕ) → Standing → List ℕ
damage_line b Current = []
damage_line b Other = line (codes "block " ++ decimal b) (codes "damaged, whole in its other place")
damage_line b Nowhere = line (codes "block " ++ decimal b) (codes "damaged in both places")

-- the same of the first n blocks, in rising order
abbrev pub damage_lines : (n : ℕ) → (ℕ → Standing) → List ℕ
damage_lines zero standing = []
damage_lines (suc n) standing = damage_lines n standing ++ damage_line n (standing n)

-- the same of an image with so many sectors, if it has the size of one
abbrev pub damage_told : (sectors : ℕ) → (ℕ → Standing) → List ℕ
damage_told sectors standing = if is_size sectors then damage_lines (blocks_in sectors) standing else []

-- what is told of the blocks of a damaged image with so many sectors
abbrev pub damage_report : (sectors : ℕ) → Image → List ℕ
damage_report sectors image = damage_told sectors (standing_of image)
