-- What an image means by its blocks.
use Rattle.std.proofs.Common.{◌≡◌, ℕ, ◌<◌, ◌≤◌, Bool, List, length, refl, sym, ◌∙◌, ap, subst, arith}
use Rattle.sector_disk.specs.Disk.{Image, Disk}
use Rattle.journal.specs.Layout.{fewest_blocks, most_blocks}
use Rattle.journal.specs.Maps.{block_in}
use Rattle.journal.proofs.Blocks.{same_below, all_below}
use Rattle.journal.specs.PageClean.{IsClean}
use Rattle.journal.specs.PageImages.{current_of, record_of, block_of, Means}
use Rattle.journal.specs.PageLayout.{gate_at, gate_open, record_at}
use Rattle.journal.specs.PageSteps.{HasBlocksUnder, HasBlocks, IsSound}
use Rattle.journal.proofs.Stops.{own_blocks}

-- An image with so many blocks means these.
means_of : (bytes : ℕ → List ℕ) (blocks : List (List ℕ)) (c : Image) → fewest_blocks ≤ length blocks → length blocks ≤ most_blocks
    → ((b : ℕ) → b < length blocks → block_in blocks b ≡ bytes b) → HasBlocks (length blocks) bytes c → Means blocks c
means_of bytes blocks c many few same has = record {
  label = record { many = many; few = few; label = has.label };
  whole =
      let own = own_blocks (length blocks) (record_of c) (gate_open (c gate_at)) bytes c has in
      record { tags = own.tags; sum = own.sum };
  meant = same_below (block_of c) (block_in blocks) (length blocks) (λ b below. has.blocks b below ∙ sym (same b below)) ∙ all_below blocks;
}

pub means_sized : (n : ℕ) (bytes : ℕ → List ℕ) (blocks : List (List ℕ)) (c : Image) → fewest_blocks ≤ n → n ≤ most_blocks → length blocks ≡ n
    → ((b : ℕ) → b < n → block_in blocks b ≡ bytes b) → HasBlocks n bytes c → Means blocks c
means_sized n bytes blocks c many few size same has =
    means_of bytes blocks c (omega (arith, many, size)) (omega (arith, few, size)) (λ b below. same b (omega (arith, below, size)))
    (subst (λ m. HasBlocks m bytes c) (sym size) has)

-- A store may begin with a clean disk.
pub clean_sound : (n : ℕ) (is_open : Bool) (listing : List ℕ) (disk : Disk) → IsClean n is_open listing disk → IsSound n is_open listing disk
clean_sound n is_open listing disk clean = record {
  gate = clean.gate;
  settled = clean.synced gate_at;
  spares = λ k counts. clean.synced k;
  blocks =
      subst (λ xs. HasBlocksUnder n is_open xs (current_of xs disk.content) disk.content) clean.named
      (subst (λ o. HasBlocksUnder n o (record_of disk.content) (block_of disk.content) disk.content) clean.gate
      (record { label = clean.label.label; under = refl; blocks = λ b below. refl; tags = clean.whole.tags; sum = clean.whole.sum }));
}

-- the record that the gate of a sound disk names
pub record_named : (n : ℕ) (is_open : Bool) (listing : List ℕ) (disk : Disk) → IsSound n is_open listing disk → record_of disk.content ≡ listing
record_named n is_open listing disk sound = ap (λ o. disk.content (record_at o)) sound.gate ∙ sound.blocks.under
