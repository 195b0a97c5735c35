-- What is read of an image of layout 3 while another program writes it.
use Rattle.std.specs.Prelude.{◌≡◌, ℕ, List}
use Rattle.sector_disk.specs.Disk.{Image}
use Rattle.journal.specs.Images.{blocks_below}
use Rattle.journal.specs.PageImages.{current_of}
use Rattle.journal.specs.Tags.{tag_of, sum_below}

-- the first n blocks in the places that a record names
abbrev pub blocks_under : ℕ → List ℕ → Image → List (List ℕ)
blocks_under n listing image = blocks_below (current_of listing image) n

-- The sums of their tags tell these lists of n blocks apart: where those are the same, the blocks are.
abbrev pub TellsApart : ℕ → (one other : ℕ → List ℕ) → Type 0
TellsApart n one other =
    sum_below (λ b. tag_of b (one b)) n ≡ sum_below (λ b. tag_of b (other b)) n → blocks_below one n ≡ blocks_below other n
