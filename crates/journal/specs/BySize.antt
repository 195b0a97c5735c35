-- What an image means by the layout that its size tells.
use Rattle.std.specs.Prelude.{ℕ, List, MatchBool}
use Rattle.sector_disk.specs.Disk.{Image}
use Rattle.journal.specs.Images as journal
use Rattle.journal.specs.PageImages as pages
use Rattle.journal.specs.Sizes.{is_size}

-- An image with so many sectors means these blocks: by layout 2 where its images have so many, and else by layout 3.
abbrev pub Means : ℕ → List (List ℕ) → Image → Type 0
Means sectors blocks image = MatchBool (is_size sectors) (journal.Means blocks image) (pages.Means blocks image)
