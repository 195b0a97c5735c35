-- What holds of each technique, by cases.
use Rattle.std.proofs.Common.{◌≡◌, ◌≢◌, inl, inr, ℕ, ◌+◌, ◌*◌, ◌<◌, ◌≤◌, Bool, true, false, cond, List, ◌++◌, take, drop, refl, sym, ◌∙◌, ap, subst, arith, take-append-drop}
use Rattle.std.specs.Prelude.{length, not, OnOk, IsTrue, Result, Ok, Err}
use Rattle.sector_disk.specs.Disk.{Disk, Image, MayLeave, written, with_sector}
use Rattle.sector_disk.specs.Pages.{InPage}
use Rattle.sector_disk.specs.declared.device.SectorDevice.{Ghosts}
use Rattle.sector_disk.proofs.Moments.{sector_same, sector_other}
use Rattle.journal.specs.BySize as by_size
use Rattle.journal.specs.Clean.{IsClean}
use Rattle.journal.specs.Images as journal_images
use Rattle.journal.specs.Images.{pair_at, slot_of, home_of}
use Rattle.journal.specs.Layout as journal_layout
use Rattle.journal.specs.Layout.{fewest_blocks, most_blocks, gate_open, listed, slot_at, home_at, InPair}
use Rattle.journal.specs.Maps.{block_in}
use Rattle.journal.specs.PageClean as pages_clean
use Rattle.journal.specs.PageImages as pages_images
use Rattle.journal.specs.PageImages.{current_of, free_of}
use Rattle.journal.specs.PageLayout as pages_layout
use Rattle.journal.specs.PageLayout.{gate_bytes, current_at, free_at, sum_in, HasFlipped}
use Rattle.journal.specs.PageSteps as pages_steps
use Rattle.journal.specs.PageSteps.{InFree}
use Rattle.journal.specs.Sizes.{is_size}
use Rattle.journal.specs.Steps as journal_steps
use Rattle.journal.specs.Steps.{WritesOnly, IsAsSynced, InSlots}
use Rattle.journal.specs.Technique.{saved_at, spilled_at, saved_of, spilled_of, latest_of, record_sum, sectors_for, is_journal, Means, HasBlocks, HasSaved, IsSound, IsTagged, InSpill, InSpills}
use Rattle.journal.specs.Suits.{suits}
use Rattle.journal.specs.Store.{NamesLatest}
use Rattle.journal.specs.declared.technique.NamedRecord.{NamedRecord}
use Rattle.journal.specs.declared.technique.Technique.{Technique}
use Rattle.journal.specs.declared.technique.Technique.TheVariants.{Journal, Pages}
use Rattle.journal.proofs.Blocks.{at_below}
use Rattle.journal.proofs.Choices.{at_true, at_false}
use Rattle.journal.proofs.Meaning as journal_meaning
use Rattle.journal.proofs.Meaning.{pair_same, pick_shut, sound_means}
use Rattle.journal.proofs.PageMeaning as pages_meaning
use Rattle.journal.proofs.PageMeaning.{clean_sound, record_named}
use Rattle.journal.proofs.Paging.{wider}
use Rattle.journal.proofs.KnownSizes.{size_older, size_newer}
use Rattle.journal.proofs.Spilled.{nothing_spilled}
use Rattle.journal.proofs.Suited.{newer_suits, suits_newer, suits_older}
use Rattle.journal.proofs.Stops.{places_apart, current_apart, before_gate, sound_kept}

-- the size of a device tells the technique
pub told : (t : Technique) (n sectors : ℕ) → fewest_blocks ≤ n → n ≤ most_blocks → sectors ≡ sectors_for t n → is_size sectors ≡ is_journal t
told Journal n sectors many few size = size_older n sectors many few size
told (Pages named) n sectors many few size = size_newer n sectors size

pub journal_sectors : (t : Technique) (n : ℕ) → is_journal t ≡ true → sectors_for t n ≡ journal_layout.sectors_for n
journal_sectors Journal n is = refl
journal_sectors (Pages named) n is = absurd (cc)

pub pages_sectors : (t : Technique) (n : ℕ) → is_journal t ≡ false → sectors_for t n ≡ pages_layout.sectors_for n
pages_sectors Journal n isnt = absurd (cc)
pages_sectors (Pages named) n isnt = refl

-- What an image means by its technique it means by its size.
pub means_told : (t : Technique) (n sectors : ℕ) → fewest_blocks ≤ n → n ≤ most_blocks → sectors ≡ sectors_for t n
    → (blocks : List (List ℕ)) (c : Image) → Means t blocks c → by_size.Means sectors blocks c
means_told Journal n sectors many few size blocks c =
    at_true (is_size sectors) (journal_images.Means blocks c) (pages_images.Means blocks c) (size_older n sectors many few size)
means_told (Pages named) n sectors many few size blocks c =
    at_false (is_size sectors) (journal_images.Means blocks c) (pages_images.Means blocks c) (size_newer n sectors size)

pub means_sized : (t : Technique) (n : ℕ) (bytes : ℕ → List ℕ) (blocks : List (List ℕ)) (c : Image) → fewest_blocks ≤ n → n ≤ most_blocks → length blocks ≡ n
    → ((b : ℕ) → b < n → block_in blocks b ≡ bytes b) → HasBlocks t n bytes c → Means t blocks c
means_sized Journal = journal_meaning.means_sized
means_sized (Pages named) = pages_meaning.means_sized

-- Whatever was spilled, a stop leaves the saved blocks.
pub sound_left : (t : Technique) (n : ℕ) (disk : Disk) → MayLeave disk disk.content → IsSound t n disk
    → (P : ℕ → Type 0) → ((k : ℕ) → P k → InSpills t n k) → (c : Image) → IsAsSynced P disk c → HasBlocks t n (saved_of t n disk.content) c
sound_left Journal n disk present sound P within c is = sound_means n disk present (sound.journal refl) P (λ k p. inr (within k p)) c is
sound_left (Pages named) n disk present sound P within c is =
    before_gate n named.listing named.is_open disk present (sound.pages named refl) P (λ k p. inr (within k p)) c is

-- a slot of a block below n
pair_in_slots : (n b k : ℕ) → b < n → InPair (slot_at b) k → InSlots n k
pair_in_slots n b k below (inl at) = (omega arith, omega arith)
pair_in_slots n b k below (inr at) = (omega arith, omega arith)

pub in_spills : (t : Technique) (n b k : ℕ) → b < n → InSpill t b k → InSpills t n k
in_spills Journal n b k below at = pair_in_slots n b k below at
in_spills (Pages named) n b k below at = (b, below, at)

-- Block b was spilled.
module _ (n b : ℕ) (below : b < n) (d e : Disk) where
  low_apart : (k : ℕ) → k < 3 → ¬ InPair (slot_at b) k
  low_apart k low (inl at) = absurd (omega (arith, low, at))
  low_apart k low (inr at) = absurd (omega (arith, low, at))

  slots_sound : WritesOnly (InPair (slot_at b)) d e → journal_steps.IsSound n d → journal_steps.IsSound n e
  slots_sound only sound = record {
    label = only.content 0 (low_apart 0 (omega arith)) ∙ sound.label;
    gate = ap gate_open (only.content 1 (low_apart 1 (omega arith))) ∙ sound.gate;
    synced = λ k out. only.unsynced k (λ at. out (pair_in_slots n b k below at)) ∙ sound.synced k out;
  }

  pub sound_spilled : (t : Technique) → WritesOnly (InSpill t b) d e → IsSound t n d → IsSound t n e
  sound_spilled t only sound = record {
    journal = λ is. slots_sound (subst (λ t. WritesOnly (InSpill t b) d e) is only) (sound.journal is);
    pages = λ named is. sound_kept n named.listing named.is_open d e
        (wider (InPage (free_at named.listing b)) (InFree n named.listing) (λ k same. (b, below, same)) d e (subst (λ t. WritesOnly (InSpill t b) d e) is only))
        (sound.pages named is);
  }

  home_kept : WritesOnly (InPair (slot_at b)) d e → (a : ℕ) → home_of n e.content a ≡ home_of n d.content a
  home_kept only a = pair_same d.content e.content (home_at n a) (only.content (home_at n a) (apart (home_at n a) (omega arith))) (only.content (home_at n a + 1) (apart (home_at n a + 1) (omega arith)))
    where
      apart : (k : ℕ) → 3 + 2 * n ≤ k → ¬ InPair (slot_at b) k
      apart k high (inl at) = omega arith
      apart k high (inr at) = omega arith

  current_kept : (listing : List ℕ) → WritesOnly (InPage (free_at listing b)) d e → (a : ℕ) → current_of listing e.content a ≡ current_of listing d.content a
  current_kept listing only a = pair_same d.content e.content (current_at listing a)
      (only.content (current_at listing a) (λ same. apart 0 (omega arith) (omega (arith, same))))
      (only.content (current_at listing a + 1) (apart 1 (omega arith)))
    where
      apart : (h : ℕ) → h < 8 → ¬ InPage (free_at listing b) (current_at listing a + h)
      apart h less same = current_apart n listing a h less (b, below, same)

  -- The saved blocks stay.
  pub saved_kept : (t : Technique) → WritesOnly (InSpill t b) d e → (a : ℕ) → saved_of t n e.content a ≡ saved_of t n d.content a
  saved_kept Journal only a = home_kept only a
  saved_kept (Pages named) only a = current_kept named.listing only a

  slot_kept : WritesOnly (InPair (slot_at b)) d e → (a : ℕ) → a ≢ b → slot_of e.content a ≡ slot_of d.content a
  slot_kept only a other = pair_same d.content e.content (slot_at a) (only.content (slot_at a) first) (only.content (slot_at a + 1) second)
    where
      first : ¬ InPair (slot_at b) (slot_at a)
      first (inl at) = other (omega arith)
      first (inr at) = absurd (omega arith)

      second : ¬ InPair (slot_at b) (slot_at a + 1)
      second (inl at) = absurd (omega arith)
      second (inr at) = other (omega arith)

  free_kept : (listing : List ℕ) → WritesOnly (InPage (free_at listing b)) d e → (a : ℕ) → a ≢ b → free_of listing e.content a ≡ free_of listing d.content a
  free_kept listing only a other = pair_same d.content e.content (free_at listing a)
      (only.content (free_at listing a) (λ same. apart 0 (omega arith) (omega (arith, same))))
      (only.content (free_at listing a + 1) (apart 1 (omega arith)))
    where
      apart : (h : ℕ) → h < 8 → ¬ InPage (free_at listing b) (free_at listing a + h)
      apart h less = places_apart b a h (not (listed listing a)) (not (listed listing b)) less (λ same both. other same)

  -- So do other blocks that were spilled.
  pub spilled_kept : (t : Technique) → WritesOnly (InSpill t b) d e → (a : ℕ) → a ≢ b → spilled_of t e.content a ≡ spilled_of t d.content a
  spilled_kept Journal only a other = slot_kept only a other
  spilled_kept (Pages named) only a other = free_kept named.listing only a other

-- what was written at two sectors in a row
pub pair_written : (k : ℕ) (bytes : List ℕ) (d e : Disk) → e ≡ written (written d k (take 512 bytes)) (k + 1) (drop 512 bytes) → pair_at e.content k ≡ bytes
pair_written k bytes d e is =
    ap (λ (x : Disk). pair_at x.content k) is
    ∙ (λ t. (sector_other (with_sector d.content k (take 512 bytes)) (k + 1) k (drop 512 bytes) (omega arith) ∙ sector_same d.content k (take 512 bytes)) t
    ++ sector_same (with_sector d.content k (take 512 bytes)) (k + 1) (drop 512 bytes) t)
    ∙ take-append-drop 512 bytes

-- the latest bytes are where they are
pub latest_there : (t : Technique) (n : ℕ) (pending : List ℕ) (image : Image) (b : ℕ)
    → pair_at image (cond (listed pending b) (spilled_at t b) (saved_at t n b)) ≡ latest_of t n pending image b
latest_there t n pending image b = both (listed pending b)
  where
    both : (x : Bool) → pair_at image (cond x (spilled_at t b) (saved_at t n b)) ≡ cond x (spilled_of t image b) (saved_of t n image b)
    both true = refl
    both false = refl

-- A store may begin with a clean disk.
pub journal_sound : (n : ℕ) (disk : Disk) → IsClean n disk → IsSound Journal n disk
journal_sound n disk clean = record {
  journal = λ is. record { label = clean.label.label; gate = clean.gate; synced = λ k out. clean.synced k };
  pages = λ named is. absurd (cc);
}

pub pages_sound : (n : ℕ) (named : NamedRecord) (disk : Disk) → pages_clean.IsClean n named.is_open named.listing disk → IsSound (Pages named) n disk
pages_sound n named disk clean = record {
  journal = λ is. absurd (cc);
  pages = λ other is.
      let same : named ≡ other = cc in
      subst (λ (x : NamedRecord). pages_steps.IsSound n x.is_open x.listing disk) same (clean_sound n named.is_open named.listing disk clean);
}

-- By layout 2 nothing has a tag.
pub journal_tagged : (t : Technique) → t ≡ Journal → (n : ℕ) (pending sum : List ℕ) (image : Image) → IsTagged t n pending sum image
journal_tagged t is n pending sum image = record { pages = λ named other. absurd (cc) }

-- With nothing pending the sum is that of the record.
pub rest_tagged : (t : Technique) (n : ℕ) (pending sum : List ℕ) (disk : Disk) → ((b : ℕ) → listed pending b ≡ false) → sum ≡ record_sum t → IsSound t n disk
    → IsTagged t n pending sum disk.content
rest_tagged Journal n pending sum disk none is sound = journal_tagged Journal refl n pending sum disk.content
rest_tagged (Pages here) n pending sum disk none is sound = record {
  pages = λ named other.
      let same : here ≡ named = cc in
      subst (λ (x : NamedRecord). pages_steps.HasSpilled n x.listing pending sum disk.content) same
      (nothing_spilled n here.is_open here.listing pending sum disk none is (sound.pages here refl));
}

-- what a step makes of it by layout 3
pub tagged_more : (t : Technique) (here : NamedRecord) → t ≡ Pages here → (n : ℕ) (pending sum next new : List ℕ) (i j : Image)
    → (pages_steps.HasSpilled n here.listing pending sum i → pages_steps.HasSpilled n here.listing next new j)
    → IsTagged t n pending sum i → IsTagged t n next new j
tagged_more t here is n pending sum next new i j step before = record {
  pages = λ named other.
      let same : here ≡ named = cc in
      subst (λ (x : NamedRecord). pages_steps.HasSpilled n x.listing next new j) same (step (before.pages here is));
}

-- the blocks that are saved there
pub journal_blocks : (n : ℕ) (disk : Disk) → IsClean n disk → (b : ℕ) → b < n
    → block_in (journal_images.meaning n disk.content) b ≡ home_of n disk.content b
journal_blocks n disk clean b below =
    at_below (journal_images.block_of n disk.content) n b below
    ∙ pick_shut (gate_open (disk.content 1)) (listed (disk.content 2) b) (slot_of disk.content b) (home_of n disk.content b) clean.gate

pub pages_blocks : (n : ℕ) (is_open : Bool) (listing : List ℕ) (disk : Disk) → pages_clean.IsClean n is_open listing disk → (b : ℕ) → b < n
    → block_in (pages_images.meaning n disk.content) b ≡ current_of listing disk.content b
pages_blocks n is_open listing disk clean b below =
    at_below (pages_images.block_of disk.content) n b below ∙ ap (λ xs. current_of xs disk.content b) clean.named

-- a result that is well
pub on_ok : {T E : Type 0} (result : Result T E) {P Q : Type 0} → (P → Q) → OnOk result P → OnOk result Q
on_ok (Ok x) f p = f p
on_ok (Err e) f p = p

pub on_three : {T E : Type 0} (result : Result T E) {P Q R S : Type 0} → (P → Q → R → S) → OnOk result P → OnOk result Q → OnOk result R → OnOk result S
on_three (Ok x) f p q r = f p q r
on_three (Err e) f p q r = p

pub on_both : {T E : Type 0} (result : Result T E) {P Q R : Type 0} → (P → Q → R) → OnOk result P → OnOk result Q → OnOk result R
on_both (Ok x) f p q = f p q
on_both (Err e) f p q = p

-- what a save makes of a disk
pub journal_saved : (t : Technique) (n : ℕ) (pending : List ℕ) (d e : Disk) → t ≡ Journal → journal_steps.HasSaved n pending d e → HasSaved t t n pending d e
journal_saved t n pending d e is saved = subst (λ t. HasSaved t t n pending d e) (sym is) (record {
  sound = record { journal = λ same. saved.sound; pages = λ named other. absurd (cc) };
  blocks = saved.blocks;
})

module _ (t : Technique) (n : ℕ) (pending : List ℕ) (before : NamedRecord) (is : t ≡ Pages before) (d e : Disk) where
  pub pages_saved : (after : NamedRecord) → after.is_open ≡ not before.is_open
      → pages_steps.HasSaved n before.is_open before.listing pending after.listing d e → HasSaved t (Pages after) n pending d e
  pages_saved after turned saved = subst (λ t. HasSaved t (Pages after) n pending d e) (sym is) (record {
    sound = record {
      journal = λ other. absurd (cc);
      pages = λ named other.
          let same : after ≡ named = cc in
          subst (λ (x : NamedRecord). pages_steps.IsSound n x.is_open x.listing e) same
          (subst (λ o. pages_steps.IsSound n o after.listing e) (sym turned) saved.sound);
    };
    blocks = saved.blocks;
  })

  pub pages_named : (named : NamedRecord) (next : List ℕ) → t ≡ Pages named
      → pages_steps.HasSaved n before.is_open before.listing pending next d e → NamesLatest n named.is_open named.listing pending e.content
  pages_named named next other saved =
      let same : before ≡ named = cc in
      subst (λ (x : NamedRecord). NamesLatest n x.is_open x.listing pending e.content) same (record {
        gate = saved.gate ∙ ap (λ l. gate_bytes (not before.is_open) (sum_in l)) (sym (record_named n (not before.is_open) next e saved.sound));
        flipped = subst (HasFlipped n before.listing pending) (sym (record_named n (not before.is_open) next e saved.sound)) saved.flipped;
      })

-- What suits a store keeps the disk model as its technique needs it.
module _ {D : Type 0} (G : Ghosts D) (t : Technique) (n : ℕ) (d : D) (many : fewest_blocks ≤ n) (few : n ≤ most_blocks) (size : G.sector_count d ≡ sectors_for t n) where
  pub suits_journal : t ≡ Journal → IsTrue (suits G d) → IsTrue (G.keeps_sectors d)
  suits_journal is keeps = suits_older G d (told t n (G.sector_count d) many few size ∙ ap is_journal is) keeps

  pub suits_pages : (named : NamedRecord) → t ≡ Pages named → IsTrue (suits G d) → IsTrue (G.keeps_model d)
  suits_pages named is keeps = suits_newer G d (told t n (G.sector_count d) many few size ∙ ap is_journal is) keeps

  pub pages_suit : (named : NamedRecord) → t ≡ Pages named → IsTrue (G.keeps_model d) → IsTrue (suits G d)
  pages_suit named is keeps = subst IsTrue (sym (newer_suits G d (told t n (G.sector_count d) many few size ∙ ap is_journal is))) keeps
