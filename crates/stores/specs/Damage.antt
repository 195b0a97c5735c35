-- Whether an image of layout 3 is damaged, as a test.
use Rattle.std.specs.Prelude.{ℕ, zero, suc, ◌&&◌, Bool, true, List, nat_eq}
use Rattle.std.specs.Cmp.Lexicographic.{pointwise}
use Rattle.sector_disk.specs.Disk.{Image}
use Rattle.journal.specs.PageImages.{current_of, current_tag, record_of}
use Rattle.journal.specs.PageLayout.{sum_in}
use Rattle.journal.specs.Tags.{tag_of, sum_below}

-- whether under this record the tag of each of the first n blocks is that of its bytes
abbrev pub are_tagged : List ℕ → Image → ℕ → Bool
are_tagged listing image zero = true
are_tagged listing image (suc n) =
    are_tagged listing image n && pointwise nat_eq (current_tag listing image n) (tag_of n (current_of listing image n))

-- whether under this record these blocks aren't damaged: their tags are true, and so is the record's sum of them
abbrev pub is_whole_under : ℕ → List ℕ → Image → Bool
is_whole_under n listing image =
    are_tagged listing image n && pointwise nat_eq (sum_in listing) (sum_below (λ b. tag_of b (current_of listing image b)) n)

-- whether an image of n blocks isn't damaged
abbrev pub is_whole : ℕ → Image → Bool
is_whole n image = is_whole_under n (record_of image) image
