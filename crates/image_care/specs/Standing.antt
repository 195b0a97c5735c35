-- Where a whole save of a block stands.
use Rattle.std.specs.Prelude.{ℕ, ◌+◌, ◌*◌, Bool, true, false, not, if◌then◌else◌, List, replicate, nat_eq}
use Rattle.std.specs.Cmp.Lexicographic.{pointwise}
use Rattle.sector_disk.specs.Disk.{Image}
use Rattle.journal.specs.Images.{pair_at, blocks_below}
use Rattle.journal.specs.Layout.{count_below}
use Rattle.journal.specs.PageImages.{current_of, free_of, record_of}
use Rattle.journal.specs.PageLayout.{current_at, free_at, tag_in}
use Rattle.journal.specs.Tags.{tag_of}
use Rattle.image_care.specs.declared.pages.standing.Standing.{Standing}
use Rattle.image_care.specs.declared.pages.standing.Standing.TheVariants.{Current, Other, Nowhere}

-- whether the place that begins with sector k holds a whole save of block b: the tag there is that of the bytes there
abbrev pub holds_whole : Image → ℕ → ℕ → Bool
holds_whole image b k = pointwise nat_eq (tag_in (image (k + 2))) (tag_of b (pair_at image k))

-- whether block b stands whole where it counts: in the place that the record names which the gate names
abbrev pub stands_whole : Image → ℕ → Bool
stands_whole image b = holds_whole image b (current_at (record_of image) b)

-- where block b stands, under a record: in the place that it names, if the block isn't damaged there; else in the other one, if that
-- holds a whole save
abbrev pub standing_under : List ℕ → Image → ℕ → Standing
standing_under listing image b =
    if holds_whole image b (current_at listing b) then Current
    else (if holds_whole image b (free_at listing b) then Other else Nowhere)

-- the bytes of block b there, and blanks where it stands nowhere
abbrev pub salvaged_under : List ℕ → Image → ℕ → List ℕ
salvaged_under listing image b =
    if holds_whole image b (current_at listing b) then current_of listing image b
    else (if holds_whole image b (free_at listing b) then free_of listing image b else replicate 1024 32)

-- whether block b is damaged under a record: the place that it names holds no whole save
abbrev pub is_damaged_under : List ℕ → Image → ℕ → Bool
is_damaged_under listing image b = not (holds_whole image b (current_at listing b))

-- how many reads take the first n blocks so: three of each place that is looked at
abbrev pub reads_to_take : ℕ → List ℕ → Image → ℕ
reads_to_take n listing image = 3 * n + 3 * count_below (is_damaged_under listing image) n

-- the same under the record that the gate names, whether or not its sum is true
abbrev pub standing_of : Image → ℕ → Standing
standing_of image b = standing_under (record_of image) image b

abbrev pub salvaged_block : Image → ℕ → List ℕ
salvaged_block image b = salvaged_under (record_of image) image b

-- The blocks that a salvage takes from an image of n blocks. Of a damaged image these may be of several saves: what stands in an
-- other place is older than what the record names, or was spilled and not saved, where the record is the one that was saved.
abbrev pub salvaged_blocks : ℕ → Image → List (List ℕ)
salvaged_blocks n image = blocks_below (salvaged_block image) n

abbrev pub is_other : Standing → Bool
is_other Current = false
is_other Other = true
is_other Nowhere = false

abbrev pub is_nowhere : Standing → Bool
is_nowhere Current = false
is_nowhere Other = false
is_nowhere Nowhere = true
