-- What a stop leaves of that which counts.
use Rattle.std.proofs.Common.{◌≡◌, ◌≢◌, ◌⊎◌, inl, inr, ⊎_elim, ℕ, ◌+◌, ◌<◌, Bool, true, false, List, ◌++◌, refl, sym, ◌∙◌, ap, subst, arith}
use Rattle.std.specs.Prelude.{not}
use Rattle.sector_disk.specs.Disk.{Image, Disk, MayLeave}
use Rattle.journal.specs.Layout.{listed}
use Rattle.journal.specs.PageLayout.{gate_at, gate_open, record_at, place_at, current_at, tag_in}
use Rattle.journal.specs.PageImages.{current_of}
use Rattle.journal.specs.Tags.{tag_of}
use Rattle.journal.proofs.Sums.{same_sum}
use Rattle.sector_disk.specs.Pages.{InPage}
use Rattle.journal.specs.Steps.{WritesOnly, IsAsSynced}
use Rattle.journal.specs.PageSteps.{InFree, InSpare, Counts, Spares, Agrees, HasBlocksUnder, HasBlocks, IsSound}

-- Each part has a page of its own.
low_apart : (k a : ℕ) (y : Bool) → k < 32 → ¬ InPage (place_at a y) k
low_apart k a true low same = absurd (omega arith)
low_apart k a false low same = absurd (omega arith)

high_apart : (k b h : ℕ) (x : Bool) → k < 32 → ¬ InPage k (place_at b x + h)
high_apart k b h true low same = absurd (omega arith)
high_apart k b h false low same = absurd (omega arith)

pub places_apart : (a b h : ℕ) (x y : Bool) → h < 8 → (b ≡ a → x ≢ y) → ¬ InPage (place_at a y) (place_at b x + h)
places_apart a b h true true less other same = other (omega arith) refl
places_apart a b h false false less other same = other (omega arith) refl
places_apart a b h true false less other same = absurd (omega arith)
places_apart a b h false true less other same = absurd (omega arith)

record_low : (o : Bool) → record_at o < 32
record_low true = omega arith
record_low false = omega arith

records_apart : (o : Bool) → ¬ InPage (record_at (not o)) (record_at o)
records_apart true same = absurd (omega arith)
records_apart false same = absurd (omega arith)

first_apart : (o : Bool) → ¬ InPage (record_at o) 0
first_apart true same = absurd (omega arith)
first_apart false same = absurd (omega arith)

gate_record : (o : Bool) → ¬ InPage (record_at o) gate_at
gate_record true same = absurd (omega arith)
gate_record false same = absurd (omega arith)

record_gate : (o : Bool) → ¬ InPage gate_at (record_at o)
record_gate true same = absurd (omega arith)
record_gate false same = absurd (omega arith)

pub not_same : (x : Bool) → x ≢ not x
not_same true same = cc
not_same false same = cc

pub one_or_other : (x y : Bool) → (y ≡ x) ⊎ (y ≡ not x)
one_or_other true true = inl refl
one_or_other true false = inr refl
one_or_other false true = inr refl
one_or_other false false = inl refl

module _ (n : ℕ) (listing : List ℕ) where
  -- the sectors of a current place
  pub current_apart : (b h : ℕ) → h < 8 → ¬ InFree n listing (current_at listing b + h)
  current_apart b h less (a, within, same) =
      places_apart a b h (listed listing b) (not (listed listing a)) less
      (λ is both. not_same (listed listing a) (sym (ap (listed listing) is) ∙ both)) same

  pub low_not_free : (k : ℕ) → k < 32 → ¬ InFree n listing k
  low_not_free k low (a, within, same) = low_apart k a (not (listed listing a)) low same

  module _ (is_open : Bool) where
    pub gate_not_spare : ¬ InSpare n is_open listing gate_at
    gate_not_spare (inl same) = gate_record (not is_open) same
    gate_not_spare (inr free) = low_not_free gate_at (omega arith) free

    -- Nothing that counts lies in a spare page.
    pub spare_apart : (k : ℕ) → Counts n is_open listing k → ¬ InSpare n is_open listing k
    spare_apart k (inl at) spare = ⊎_elim
        (λ same. first_apart (not is_open) (subst (InPage (record_at (not is_open))) at same))
        (λ free. low_not_free 0 (omega arith) (subst (InFree n listing) at free))
        spare
    spare_apart k (inr (inl at)) spare = ⊎_elim
        (λ same. records_apart is_open (subst (InPage (record_at (not is_open))) at same))
        (λ free. low_not_free (record_at is_open) (record_low is_open) (subst (InFree n listing) at free))
        spare
    spare_apart k (inr (inr (b, h, below, less, at))) spare = ⊎_elim
        (λ same. high_apart (record_at (not is_open)) b h (listed listing b) (record_low (not is_open)) (subst (InPage (record_at (not is_open))) at same))
        (λ free. current_apart b h (omega (arith, less)) (subst (InFree n listing) at free))
        spare

    -- nor in that of the gate
    pub gate_apart : (k : ℕ) → Counts n is_open listing k → ¬ InPage gate_at k
    gate_apart k (inl at) same = absurd (omega (arith, at, same))
    gate_apart k (inr (inl at)) same = record_gate is_open (subst (InPage gate_at) at same)
    gate_apart k (inr (inr (b, h, below, less, at))) same = high_apart gate_at b h (listed listing b) (omega arith) (subst (InPage gate_at) at same)

    module _ (P : ℕ → Type 0) (apart : (k : ℕ) → Counts n is_open listing k → ¬ P k) where
      -- A write beside what counts leaves it synced.
      pub spares_kept : (d e : Disk) → WritesOnly P d e → Spares n is_open listing d → Spares n is_open listing e
      spares_kept d e only spares k counts = only.unsynced k (apart k counts) ∙ spares k counts

      pub only_agrees : (d e : Disk) → WritesOnly P d e → Agrees n is_open listing d.content e.content
      only_agrees d e only k counts = only.content k (apart k counts)

      -- Where nothing that counts is unsynced, a stop leaves it as it is.
      pub spared : (d : Disk) → MayLeave d d.content → Spares n is_open listing d → (c : Image) → IsAsSynced P d c → Agrees n is_open listing d.content c
      spared d present spares c is k counts = is k (apart k counts) (spares k counts) ∙ sym (present k (spares k counts))

    -- What counts is the same, so the blocks are, and nothing is damaged.
    pub agrees_means : (bytes : ℕ → List ℕ) (i j : Image) → Agrees n is_open listing i j
        → HasBlocksUnder n is_open listing bytes i → HasBlocksUnder n is_open listing bytes j
    agrees_means bytes i j agrees has = record {
      label = agrees 0 (inl refl) ∙ has.label;
      under = agrees (record_at is_open) (inr (inl refl)) ∙ has.under;
      blocks = λ b below. (λ t. at b 0 below (omega arith) (current_at listing b) (omega arith) t ++ at b 1 below (omega arith) (current_at listing b + 1) refl t) ∙ has.blocks b below;
      tags = λ b below. ap tag_in (at b 2 below (omega arith) (current_at listing b + 2) refl) ∙ has.tags b below;
      sum = has.sum;
    }
      where
        at : (b h : ℕ) → b < n → h < 3 → (k : ℕ) → k ≡ current_at listing b + h → j k ≡ i k
        at b h below less k is = agrees k (inr (inr (b, h, below, less, is)))

    -- an image has its own blocks
    pub own_blocks : (bytes : ℕ → List ℕ) (image : Image) → HasBlocksUnder n is_open listing bytes image → HasBlocksUnder n is_open listing (current_of listing image) image
    own_blocks bytes image has = record {
      label = has.label;
      under = has.under;
      blocks = λ b below. refl;
      tags = λ b below. has.tags b below ∙ ap (tag_of b) (sym (has.blocks b below));
      sum = has.sum ∙ same_sum (λ b. tag_of b (current_of listing image b)) (λ b. tag_of b (bytes b)) n (λ b below. ap (tag_of b) (sym (has.blocks b below)));
    }

    -- the blocks under the record that the gate names
    pub named : (bytes : ℕ → List ℕ) (image : Image) → gate_open (image gate_at) ≡ is_open
        → HasBlocksUnder n is_open listing bytes image → HasBlocks n bytes image
    named bytes image is has =
        subst (λ o. HasBlocksUnder n o (image (record_at o)) bytes image) (sym is)
        (subst (λ xs. HasBlocksUnder n is_open xs bytes image) (sym has.under) has)

    -- Until the gate is written, a stop leaves the saved blocks, whatever was written to spare pages.
    pub before_gate : (d : Disk) → MayLeave d d.content → IsSound n is_open listing d
        → (P : ℕ → Type 0) → ((k : ℕ) → P k → InSpare n is_open listing k)
        → (c : Image) → IsAsSynced P d c → HasBlocks n (current_of listing d.content) c
    before_gate d present sound P within c is =
        named (current_of listing d.content) c
        (ap gate_open (is gate_at (λ p. gate_not_spare (within gate_at p)) sound.settled ∙ sym (present gate_at sound.settled)) ∙ sound.gate)
        (agrees_means (current_of listing d.content) d.content c
        (spared P (λ k counts p. spare_apart k counts (within k p)) d present sound.spares c is) sound.blocks)

    -- After writes to free places a store is as sound as before.
    pub sound_kept : (d e : Disk) → WritesOnly (InFree n listing) d e → IsSound n is_open listing d → IsSound n is_open listing e
    sound_kept d e only sound = record {
      gate = ap gate_open (only.content gate_at (low_not_free gate_at (omega arith))) ∙ sound.gate;
      settled = only.unsynced gate_at (low_not_free gate_at (omega arith)) ∙ sound.settled;
      spares = spares_kept (InFree n listing) apart d e only sound.spares;
      blocks = own_blocks (current_of listing d.content) e.content
          (agrees_means (current_of listing d.content) d.content e.content (only_agrees (InFree n listing) apart d e only) sound.blocks);
    }
      where
        apart : (k : ℕ) → Counts n is_open listing k → ¬ InFree n listing k
        apart k counts free = spare_apart k counts (inr free)

-- While the gate is written, a stop leaves the blocks of the one record or of the other, whatever the gate holds.
pub at_gate : (n : ℕ) (is_open : Bool) (listing next : List ℕ) (old new : ℕ → List ℕ) (i c : Image)
    → HasBlocksUnder n is_open listing old i → HasBlocksUnder n (not is_open) next new i
    → ((k : ℕ) → ¬ InPage gate_at k → c k ≡ i k) → HasBlocks n old c ⊎ HasBlocks n new c
at_gate n is_open listing next old new i c has has_next same = ⊎_elim
    (λ is. inl (named n listing is_open old c is (agrees_means n listing is_open old i c (λ k counts. same k (gate_apart n listing is_open k counts)) has)))
    (λ is. inr (named n next (not is_open) new c is (agrees_means n next (not is_open) new i c (λ k counts. same k (gate_apart n next (not is_open) k counts)) has_next)))
    (one_or_other is_open (gate_open (c gate_at)))
