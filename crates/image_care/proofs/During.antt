-- What is read while the gate stands is what the image meant.
use Rattle.std.proofs.Common.{◌≡◌, ◌∙◌, ◌<◌, ◌≤◌, ◌+◌, ◌-◌, ℕ, ap, arith, inl, inr, refl, zero, suc}
use Rattle.std.specs.Prelude.{◌++◌}
use Rattle.sector_disk.specs.Disk.{Image}
use Rattle.journal.specs.Images.{pair_at}
use Rattle.journal.specs.PageImages.{block_of, meaning, record_of}
use Rattle.journal.specs.PageLayout.{current_at, gate_at, gate_open, record_at}
use Rattle.journal.proofs.Blocks.{same_below}
use Rattle.image_care.specs.During.{Counts, IsReadIn, Stands, Stays, WritesFree}

module _ (image_at : ℕ → Image) (from to : ℕ) (seen : Image) (read : IsReadIn image_at from to seen) where
  -- A sector that stays is read as it was.
  sector : (k : ℕ) → Stays image_at from to k → seen k ≡ image_at from k
  sector k stays = let moment = read k in moment.3 ∙ stays moment.0 moment.1 moment.2

  module _ (n : ℕ) (stands : Stands image_at from to n) where
    named : record_of seen ≡ record_of (image_at from)
    named =
        ap (λ gate. seen (record_at (gate_open gate))) (sector gate_at stands.gate)
        ∙ sector (record_at (gate_open (image_at from gate_at))) stands.named

    pub block : (b : ℕ) → b < n → block_of seen b ≡ block_of (image_at from) b
    block b below =
        ap (λ listing. pair_at seen (current_at listing b)) named
        ∙ ap (λ half. half ++ seen (current_at (record_of (image_at from)) b + 1)) (sector (current_at (record_of (image_at from)) b) (stands.first b below))
        ∙ ap (λ half. image_at from (current_at (record_of (image_at from)) b) ++ half) (sector (current_at (record_of (image_at from)) b + 1) (stands.second b below))

    pub blocks : meaning n seen ≡ meaning n (image_at from)
    blocks = same_below (block_of seen) (block_of (image_at from)) n block

-- Step by step, what counts stays.
module _ (image_at : ℕ → Image) (from to n : ℕ) (free : WritesFree image_at from to n) where
  so_far : (k : ℕ) → Counts image_at from to n k → (d : ℕ) → from + d ≤ to → image_at (from + d) k ≡ image_at from k
  so_far k counts zero within = ap (λ t. image_at t k) (omega arith)
  so_far k counts (suc d) within =
      ap (λ t. image_at t k) (omega arith)
      ∙ free (from + d) (omega arith) (omega (arith, within)) k counts
      ∙ so_far k counts d (omega (arith, within))

  stays : (k : ℕ) → Counts image_at from to n k → Stays image_at from to k
  stays k counts t after before =
      ap (λ t. image_at t k) (omega (arith, after)) ∙ so_far k counts (t - from) (omega (arith, after, before))

  pub stands : Stands image_at from to n
  stands = record {
    gate = stays gate_at (inl refl);
    named = stays (record_at (gate_open (image_at from gate_at))) (inr (inl refl));
    first = λ b below. stays (current_at (record_of (image_at from)) b) (inr (inr (b, below, inl refl)));
    second = λ b below. stays (current_at (record_of (image_at from)) b + 1) (inr (inr (b, below, inr refl)));
  }
