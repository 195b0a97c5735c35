-- What an examination finds is what the image means.
use Rattle.std.proofs.Common.{◌≡◌, ℕ, zero, suc, Bool, true, false, cond, List, [], ◌∷◌, ◌++◌, Some, None, refl, sym, ◌∙◌, ap}
use Rattle.std.specs.Prelude.{◌&&◌}
use Rattle.std.specs.List.{concat}
use Rattle.std.proofs.lemmas.List.{append-nil}
use Rattle.std.proofs.lemmas.List.Folds.{concat-append}
use Rattle.sector_disk.specs.Disk.{Image}
use Rattle.journal.specs.Layout.{gate_open, listed}
use Rattle.journal.specs.Images.{slot_of, home_of, block_of, blocks_below}
use Rattle.recovery.specs.Found.{found_in}
use Rattle.image_care.specs.Examined.{record_in, joined_below}

-- Each block is found where it stands.
pub found_block : (n : ℕ) (image : Image) (b : ℕ) → found_in n (record_in image) image b ≡ block_of n image b
found_block n image b = by_gate (gate_open (image 1)) (listed (image 2) b) refl
  where
    by_listed : (lists : Bool) → listed (image 2) b ≡ lists
        → found_in n (Some (image 2)) image b ≡ cond lists (slot_of image b) (home_of n image b)
    by_listed true is = cc
    by_listed false is = cc

    by_gate : (is_open lists : Bool) → listed (image 2) b ≡ lists
        → found_in n (cond is_open (Some (image 2)) None) image b ≡ cond (is_open && lists) (slot_of image b) (home_of n image b)
    by_gate true lists is = by_listed lists is
    by_gate false lists is = refl

-- Blocks one after another are the joined blocks.
pub joined_blocks : (bytes : ℕ → List ℕ) (n : ℕ) → joined_below bytes n ≡ concat (blocks_below bytes n)
joined_blocks bytes zero = refl
joined_blocks bytes (suc n) =
    ap (λ l. l ++ bytes n) (joined_blocks bytes n)
    ∙ ap (λ l. concat (blocks_below bytes n) ++ l) (sym (append-nil (bytes n)))
    ∙ sym (concat-append (blocks_below bytes n) (bytes n ∷ []))
