-- A format that is stopped at every call. Each stop is tried in four ways: every unsynced sector lost, every one kept,
-- every one torn, or every second one kept. Where only two bytes of a sector tell something, it has two bytes here.
use Rattle.std.specs.Prelude.{◌≡◌, ◌==◌, ◌+◌, ◌||◌, not, ℕ, zero, suc, Bool, true, false, nat_eq, nat_lt, if◌then◌else◌, List, [], ◌∷◌, ◌++◌, map, replicate, refl}
use Rattle.std.specs.List.{flat_map}
use lib.Pointwise.{pointwise}
use Rattle.sector_disk.specs.Disk.{Image, Disk}
use Rattle.sector_disk.specs.declared.memory_disk.Fate.{Fate}
use Rattle.sector_disk.specs.declared.memory_disk.Fate.TheVariants.{Lost, Kept, Torn}
use Rattle.journal.specs.Layout.{label_of}
use Rattle.journal.specs.Images.{block_of}
use Rattle.test_definitions.specs.Stops.{DiskCall, Write, Sync, after_calls, at_each_stop, synced_disk}

abbrev pub in_turn : ℕ → List Fate
in_turn zero = []
in_turn (suc n) = Kept ∷ Lost ∷ in_turn n

abbrev pub four_ways : Disk → List (List Fate)
four_ways disk = replicate 131 Lost ∷ replicate 131 Kept ∷ replicate 131 (Torn (255 ∷ 255 ∷ [])) ∷ in_turn 66 ∷ []

-- blanks into this many sectors, from one on
abbrev pub blanks_from : (first many : ℕ) → List DiskCall
blanks_from first zero = []
blanks_from first (suc n) = Write first (32 ∷ 32 ∷ []) ∷ blanks_from (first + 1) n

abbrev pub blank_image : List DiskCall
blank_image = Write 1 (0 ∷ 0 ∷ []) ∷ Write 2 (0 ∷ 0 ∷ []) ∷ blanks_from 67 64 ++ Sync ∷ []

abbrev pub the_label : List DiskCall
the_label = Write 0 (label_of 32) ∷ Sync ∷ []

-- over a device of zeros, and over an image of 32 blocks
abbrev pub first_format : List DiskCall
first_format = Sync ∷ blank_image ++ the_label

abbrev pub format_again : List DiskCall
format_again = Sync ∷ Write 0 (0 ∷ 0 ∷ []) ∷ Sync ∷ blank_image ++ the_label

abbrev pub zeros : Image
zeros k = 0 ∷ 0 ∷ []

-- with 65 in block 1, and blanks in the others
abbrev pub old_image : Image
old_image k =
    if k == 0 then label_of 32 else (if nat_lt k 3 then 0 ∷ 0 ∷ [] else (if (k == 69) || (k == 70) then 65 ∷ 65 ∷ [] else 32 ∷ 32 ∷ []))

abbrev pub is_labelled : Image → Bool
is_labelled image = pointwise nat_eq (image 0) (label_of 32)

-- what the blocks 0, 1, 2 and 31 hold
abbrev pub holds : List ℕ → Image → Bool
holds bytes image = pointwise nat_eq (flat_map (block_of 32 image) (0 ∷ 1 ∷ 2 ∷ 31 ∷ [])) bytes

abbrev pub is_blank : Image → Bool
is_blank image = holds (replicate 16 32) image

abbrev pub is_old : Image → Bool
is_old image = holds (replicate 4 32 ++ replicate 4 65 ++ replicate 8 32) image

none_or_blank : at_each_stop four_ways (λ image. not (is_labelled image) || is_blank image) (synced_disk zeros) first_format ≡ true
none_or_blank = refl

-- each stop within the format has no good label
no_label_before_the_end : at_each_stop four_ways (λ image. not (is_labelled image)) (synced_disk zeros) (Sync ∷ blank_image) ≡ true
no_label_before_the_end = refl

none_or_blank_or_old : at_each_stop four_ways (λ image. not (is_labelled image) || is_blank image || is_old image) (synced_disk old_image) format_again ≡ true
none_or_blank_or_old = refl

blank_at_last : map (λ first. at_each_stop four_ways (λ image. is_blank image) (after_calls (synced_disk first) format_again) []) (zeros ∷ old_image ∷ []) ≡ true ∷ true ∷ []
blank_at_last = refl

-- a format that leaves the old label until the end loses blocks
old_label_left : at_each_stop four_ways (λ image. not (is_labelled image) || is_blank image || is_old image) (synced_disk old_image) (Sync ∷ blank_image ++ the_label) ≡ false
old_label_left = refl
