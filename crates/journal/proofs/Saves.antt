-- The steps of a save: what the record that was written means, with the tags that the spills wrote, once the gate names it.
use Rattle.std.proofs.Common.{◌≡◌, ◌⊎◌, inl, inr, ℕ, ◌+◌, ◌/◌, ◌<◌, Bool, true, false, cond, List, ◌++◌, refl, sym, ◌∙◌, ap, subst, arith}
use Rattle.std.specs.Prelude.{not}
use Rattle.sector_disk.specs.Disk.{Image, Disk, MayLeave, with_sector, written, settled}
use Rattle.sector_disk.proofs.Moments.{sector_same, sector_other}
use Rattle.journal.specs.Images.{pair_at}
use Rattle.journal.specs.Layout.{listed}
use Rattle.journal.specs.PageLayout.{HasFlipped, gate_at, gate_bytes, gate_open, record_at, place_at, sum_in, tag_in}
use Rattle.journal.specs.PageImages.{current_of, current_tag, free_of, free_tag}
use Rattle.sector_disk.specs.Pages.{InPage}
use Rattle.journal.specs.Steps.{IsAsSynced}
use Rattle.journal.specs.PageSteps.{InSpare, Counts, HasBlocksUnder, HasBlocks, HasSpilled, IsSound, HasSaved, merged, merged_tag}
use Rattle.journal.specs.Tags.{tag_of}
use Rattle.journal.proofs.Gates.{gate_reads}
use Rattle.journal.proofs.Paging.{wider_left}
use Rattle.journal.proofs.Stops.{spare_apart, gate_apart, agrees_means, own_blocks, before_gate, at_gate}
use Rattle.journal.proofs.Sums.{same_sum}

true_or_false : (b : Bool) → (b ≡ true) ⊎ (b ≡ false)
true_or_false true = inl refl
true_or_false false = inr refl

record_not_place : (o : Bool) (b h : ℕ) (x : Bool) → ¬ (place_at b x + h ≡ record_at o)
record_not_place true b h true is = absurd (omega arith)
record_not_place true b h false is = absurd (omega arith)
record_not_place false b h true is = absurd (omega arith)
record_not_place false b h false is = absurd (omega arith)

module _ (n : ℕ) (is_open : Bool) (listing pending next sum : List ℕ) (d : Disk) (sound : IsSound n is_open listing d)
    (spilled : HasSpilled n listing pending sum d.content) (flipped : HasFlipped n listing pending next) (summed : sum_in next ≡ sum)
  where
    -- the disk once the record is written
    abbrev turned : Image
    turned = with_sector d.content (record_at (not is_open)) next

    unmoved : (k : ℕ) → Counts n is_open listing k → turned k ≡ d.content k
    unmoved k counts =
        sector_other d.content (record_at (not is_open)) k next (λ at. spare_apart n listing is_open k counts (inl (ap (λ m. m / 8) at)))

    -- Under the record that counted nothing has changed.
    has_old : HasBlocksUnder n is_open listing (current_of listing d.content) turned
    has_old = agrees_means n listing is_open (current_of listing d.content) d.content turned unmoved sound.blocks

    in_place : (b h : ℕ) (x : Bool) → turned (place_at b x + h) ≡ d.content (place_at b x + h)
    in_place b h x = sector_other d.content (record_at (not is_open)) (place_at b x + h) next (record_not_place (not is_open) b h x)

    pair_in_place : (b : ℕ) (x : Bool) → pair_at turned (place_at b x) ≡ pair_at d.content (place_at b x)
    pair_in_place b x = λ t. first t ++ in_place b 1 x t
      where
        first : turned (place_at b x) ≡ d.content (place_at b x)
        first = subst (λ k. turned k ≡ d.content k) (omega arith) (in_place b 0 x)

    -- what the record that is to count names
    named_by : (b : ℕ) → b < n → (t : Bool) → listed pending b ≡ t → listed next b ≡ cond t (not (listed listing b)) (listed listing b)
    named_by b below t is = flipped.each b below ∙ ap (λ s. cond s (not (listed listing b)) (listed listing b)) is

    module _ (b : ℕ) (below : b < n) where
      block_new : (t : Bool) → listed pending b ≡ t → current_of next turned b ≡ cond t (free_of listing d.content b) (current_of listing d.content b)
      block_new true is =
          ap (λ x. pair_at turned (place_at b x)) (named_by b below true is) ∙ pair_in_place b (not (listed listing b))
      block_new false is = ap (λ x. pair_at turned (place_at b x)) (named_by b below false is) ∙ has_old.blocks b below

      tag_new : (t : Bool) → listed pending b ≡ t → current_tag next turned b ≡ tag_of b (cond t (free_of listing d.content b) (current_of listing d.content b))
      tag_new true is =
          ap (λ x. tag_in (turned (place_at b x + 2))) (named_by b below true is)
          ∙ ap tag_in (in_place b 2 (not (listed listing b))) ∙ spilled.tags b below is
      tag_new false is = ap (λ x. tag_in (turned (place_at b x + 2))) (named_by b below false is) ∙ has_old.tags b below

      tag_merged : (t : Bool) → listed pending b ≡ t → cond t (free_tag listing d.content b) (current_tag listing d.content b)
          ≡ tag_of b (cond t (free_of listing d.content b) (current_of listing d.content b))
      tag_merged true is = spilled.tags b below is
      tag_merged false is = sound.blocks.tags b below

    -- Under the record that is to count what was pending is current.
    has_new : HasBlocksUnder n (not is_open) next (merged listing pending d.content) turned
    has_new = record {
      label = unmoved 0 (inl refl) ∙ sound.blocks.label;
      under = sector_same d.content (record_at (not is_open)) next;
      blocks = λ b below. block_new b below (listed pending b) refl;
      tags = λ b below. tag_new b below (listed pending b) refl;
      sum =
          summed ∙ spilled.total
          ∙ same_sum (λ b. tag_of b (merged listing pending d.content b)) (merged_tag listing pending d.content) n (λ b below. tag_merged b below (listed pending b) refl);
    }

    -- While the record and then the gate is written, a stop leaves the old blocks or the new ones.
    pub turning_means : MayLeave d d.content → (c : Image)
        → IsAsSynced (InPage (record_at (not is_open))) d c ⊎ IsAsSynced (InPage gate_at) (settled (written d (record_at (not is_open)) next)) c
        → HasBlocks n (current_of listing d.content) c ⊎ HasBlocks n (merged listing pending d.content) c
    turning_means present c (inl is) = inl (before_gate n listing is_open d present sound (InSpare n is_open listing) (λ k spare. spare) c
        (wider_left (InPage (record_at (not is_open))) (InSpare n is_open listing) (λ k same. inl same) d c is))
    turning_means present c (inr is) =
        at_gate n is_open listing next (current_of listing d.content) (merged listing pending d.content) turned c has_old has_new (λ k out. is k out refl)

    -- Then the gate names the new record.
    pub saved : (f : Disk) → f ≡ settled (written (settled (written d (record_at (not is_open)) next)) gate_at (gate_bytes (not is_open) (sum_in next)))
        → HasSaved n is_open listing pending next d f
    saved f is = subst (HasSaved n is_open listing pending next d) (sym is) (record {
      sound = record {
        gate = ap gate_open here ∙ gate_reads (not is_open) (sum_in next);
        settled = refl;
        spares = λ k counts. refl;
        blocks = own_blocks n next (not is_open) (merged listing pending d.content) last has;
      };
      flipped = flipped;
      blocks = λ b below. has.blocks b below;
      synced = λ k. refl;
      gate = here;
    })
      where
        last : Image
        last = with_sector turned gate_at (gate_bytes (not is_open) (sum_in next))

        here : last gate_at ≡ gate_bytes (not is_open) (sum_in next)
        here = sector_same turned gate_at (gate_bytes (not is_open) (sum_in next))

        has : HasBlocksUnder n (not is_open) next (merged listing pending d.content) last
        has = agrees_means n next (not is_open) (merged listing pending d.content) turned last
            (λ k counts. sector_other turned gate_at k (gate_bytes (not is_open) (sum_in next)) (λ at. gate_apart n next (not is_open) k counts (ap (λ m. m / 8) at)))
            has_new
