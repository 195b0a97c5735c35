-- What a stop of an upgrade leaves.
use Rattle.std.proofs.Common.{◌≡◌, ◌⊎◌, inl, inr, ⊎_elim, ℕ, ◌<◌, ◌≤◌, List, length, refl, sym, ◌∙◌, ap, subst, arith, IsTrue, None, Result, Ok, Err}
use Rattle.std.specs.Prelude.{IfErr, MatchResult}
use Rattle.std.proofs.lemmas.Bool.{cases_lt}
use Rattle.sector_disk.specs.Disk.{Disk, Image, MayLeave}
use Rattle.sector_disk.specs.declared.device.SectorDevice.{Ghosts}
use Rattle.sector_disk.proofs.Moments.{leaves_then}
use Rattle.journal.specs.Chain.{MayRedo}
use Rattle.journal.specs.Images.{slot_of, home_of, block_of, blocks_below, meaning, Means}
use Rattle.journal.specs.Layout.{fewest_blocks, most_blocks, most_blocks_1, label_1_of, gate_open, listed}
use Rattle.journal.specs.Layout1.{HasGoodLabel1, Means1}
use Rattle.journal.specs.Steps.{HasRecovered}
use Rattle.journal.proofs.Blocks.{same_below, same_list, at_below, length-below}
use Rattle.journal.proofs.Calls.{Widens, proceeds_then}
use Rattle.journal.proofs.Meaning.{redo_blocks, redo_label, pick_shut}
use Rattle.recovery.specs.Recovered.{LeavesBy}
use Rattle.recovery.specs.Steps.{IsMade, OnlyRead}
use Rattle.recovery.specs.Label.{blocks_in, label_refusal_by}
use Rattle.recovery.specs.Opened.{first_of}
use Rattle.recovery.specs.Upgraded.{MeansAsBefore, OldLeaves, of_old, size_refusal, upgrade_refusal}
use Rattle.recovery.proofs.Formats.{same_or_not, AreHomes, made_means}

good_or_not_1 : (n : ℕ) (c : Image) → HasGoodLabel1 n c ⊎ ¬ HasGoodLabel1 n c
good_or_not_1 n c = ⊎_elim
    (λ same. ⊎_elim
    (λ low. inr (λ good. absurd (omega (arith, low, good.many))))
    (λ many. ⊎_elim (λ high. inr (λ good. absurd (omega (arith, high, good.few)))) (λ few. inl (record { many = many; few = few; label = same })) (cases_lt 2048 n))
    (cases_lt n 32))
    (λ bad. inr (λ good. bad good.label))
    (same_or_not (c 0) (label_1_of n))

-- An image with a good label means its blocks, and so does each other one of them.
means_like : (n : ℕ) (i j : Image) → HasGoodLabel1 n j → meaning n j ≡ meaning n i → Means1 (meaning n i) j
means_like n i j good same = record {
  label = subst (λ m. HasGoodLabel1 m j) (sym long) good;
  meant = ap (λ m. meaning m j) long ∙ same;
}
  where
    long : length (meaning n i) ≡ n
    long = length-below (block_of n i) n

as_before : (n : ℕ) (i j : Image) → HasGoodLabel1 n i → j 0 ≡ i 0 → meaning n j ≡ meaning n i → MeansAsBefore n i j
as_before n i j good label same =
    inl (meaning n i, length-below (block_of n i) n, means_like n i i good refl, means_like n i j (record { many = good.many; few = good.few; label = label ∙ good.label }) same)

module _ (n : ℕ) (disk : Disk) where
  -- what a stop may leave before anything is written
  pub old_now : (x : Image) → MayLeave disk x → OldLeaves n disk x
  old_now x may = record {
    from = x;
    may = may;
    means = ⊎_elim (λ good. as_before n x x good refl refl) (λ bad. inr (bad, bad)) (good_or_not_1 n x);
  }

  module _ (present : MayLeave disk disk.content) (good : HasGoodLabel1 n disk.content) where
    -- within the recovery
    pub old_later : (x : Image) → MayRedo n disk.content x → OldLeaves n disk x
    old_later x redo = record {
      from = disk.content;
      may = present;
      means = as_before n disk.content x good (redo_label n disk.content x redo)
          (same_below (block_of n x) (block_of n disk.content) n (redo_blocks n (block_of n disk.content) disk.content x redo (λ b below. refl)));
    }

    -- after it
    pub old_recovered : (now : Disk) → HasRecovered n disk now → MayLeave now now.content → (x : Image) → MayLeave now x → OldLeaves n disk x
    old_recovered now done here x may = record {
      from = disk.content;
      may = present;
      means = as_before n disk.content x good (same 0 ∙ done.label)
          (ap (λ (i : Image). meaning n i) (λ t k. same k t) ∙ same_below (block_of n now.content) (block_of n disk.content) n done.blocks);
    }
      where
        same : (k : ℕ) → x k ≡ now.content k
        same k = may k (done.synced k) ∙ sym (here k (done.synced k))

  -- at any moment of a recovery by layout 1
  pub old_by : MayLeave disk disk.content → fewest_blocks ≤ n → n ≤ most_blocks_1 → (x : Image) → LeavesBy 1 n disk x → OldLeaves n disk x
  old_by present many few x = ⊎_elim (old_now x) (λ made. old_later present (record { many = many; few = few; label = made.0 }) x
      (⊎_elim (λ same. inl same) (λ redo. inr redo.1) made.1))

-- The homes of a recovered image are the blocks that it meant.
pub recovered_homes : (n : ℕ) (old new : Disk) → HasRecovered n old new → AreHomes n new.content (meaning n old.content)
recovered_homes n old new done = (
  length-below (block_of n old.content) n,
  λ b below.
      at_below (block_of n old.content) n b below ∙ sym (done.blocks b below)
      ∙ pick_shut (gate_open (new.content 1)) (listed (new.content 2) b) (slot_of new.content b) (home_of n new.content b) done.gate,
)

pub recovered_blocks : (n : ℕ) (old new : Disk) → HasRecovered n old new → blocks_below (home_of n new.content) n ≡ meaning n old.content
recovered_blocks n old new done =
    let are = recovered_homes n old new done in
    same_list (blocks_below (home_of n new.content) n) (meaning n old.content) (length-below (home_of n new.content) n ∙ sym are.0)
    (λ b below. let low = subst (λ k. b < k) are.0 below in at_below (home_of n new.content) n b low ∙ sym (are.1 b low))

module _ (n : ℕ) (many : fewest_blocks ≤ n) (few : n ≤ most_blocks) (bytes : Image) (blocks : List (List ℕ)) (are : AreHomes n bytes blocks) where
  pub after_means : (disk : Disk) → MayLeave disk disk.content → IsMade n bytes disk → (x : Image) → MayLeave disk x → Means blocks x
  after_means disk present made x may =
      made_means n many few bytes disk made blocks are x (λ k. may k (made.synced k) ∙ sym (present k (made.synced k)))

-- A device was read, and then only read.
pub only_read_then : {D : Type 0} (device : Ghosts D) (a b d : D) → Widens device → OnlyRead device a b → OnlyRead device b d → OnlyRead device a d
only_read_then device a b d widens one two =
    let honest : IsTrue (device.keeps_model a) → IsTrue (device.keeps_model b) = λ keeps. subst IsTrue (sym one.passes.model) keeps in
    record {
      disk = λ keeps. two.disk (honest keeps) ∙ one.disk keeps;
      stops = λ keeps. leaves_then device.time device.left_since a b d
          (MayLeave (device.disk a)) (MayLeave (device.disk b)) (MayLeave (device.disk a))
          one.passes.time two.passes.time (one.stops keeps) (two.stops (honest keeps))
          (λ x may. may) (λ x may. subst (λ (e : Disk). MayLeave e x) (one.disk keeps) may);
      passes = proceeds_then device a b d widens one.passes two.passes;
      begins = record {
        few_writes = omega (arith, one.begins.few_writes, two.begins.few_writes);
        few_syncs = omega (arith, one.begins.few_syncs, two.begins.few_syncs);
      };
    }

-- Where the sizes pass, the label alone tells.
pub upgrade_refused : (old new n : ℕ) (label : List ℕ) → size_refusal old new ≡ None → blocks_in old ≡ n
    → upgrade_refusal old new label ≡ of_old (label_refusal_by 1 n label)
upgrade_refused old new n label none count =
    ap (λ r. first_of r (of_old (label_refusal_by 1 (blocks_in old) label))) none ∙ ap (λ k. of_old (label_refusal_by 1 k label)) count

-- what is known of each error, beside what is known already
pub matched : {T E : Type 0} (r : Result T E) (P : Type 0) (Q R : E → Type 0) → P → ((e : E) → Q e → R e) → IfErr r Q → MatchResult r (λ _. P) R
matched (Ok t) P Q R p f q = p
matched (Err e) P Q R p f q = f e q
