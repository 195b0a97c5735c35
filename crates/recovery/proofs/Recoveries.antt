-- What a stop of a recovery leaves.
use Rattle.std.proofs.Common.{◌≡◌, inl, inr, ⊎_elim, ℕ, ◌-◌, ◌+◌, ◌*◌, ◌≤◌, Bool, true, false, cond, Option, Some, None, Result, Ok, Err, refl, sym, subst, ◌∙◌, ap, arith}
use Rattle.std.specs.Prelude.{◌&&◌, ◌||◌, ◌==◌, not, IsErrAnd, MatchResult}
use Rattle.sector_disk.specs.Disk.{Disk, Image, MayLeave}
use Rattle.sector_disk.specs.declared.device.SectorDevice.{Ghosts}
use Rattle.journal.specs.Calls.{BeginsAtMost, ReadsAtMost}
use Rattle.journal.specs.Chain.{HasMeaning, Follows}
use Rattle.journal.specs.Images.{is_damaged}
use Rattle.journal.specs.Clean.{IsClean}
use Rattle.journal.specs.Layout.{fewest_blocks, most_blocks, gate_open, label_by, sectors_for, count_listed}
use Rattle.journal.specs.Steps.{HasRecovered}
use Rattle.recovery.specs.Opened.{damage_refusal, first_of, image_refusal, RecoveryLeaves, writes_for, syncs_for, reads_for}
use Rattle.recovery.specs.Label.{blocks_in, is_size, label_refusal, label_refusal_by}
use Rattle.recovery.specs.Recovered.{damage_refusal_by, LeavesBy, recovery_refusal, record_reads, reads_by}
use Rattle.recovery.specs.Upgraded.{reads_for_1}
use Rattle.recovery.specs.declared.fault.OpenFault.{OpenFault}
use Rattle.recovery.specs.declared.fault.OpenFault.TheVariants.{BadSize, Damaged}
use Rattle.recovery.proofs.Labels.{good_passes}

-- What isn't refused as damaged is whole.
pub not_damaged : (n : ℕ) (image : Image) → damage_refusal n image ≡ None → is_damaged n image ≡ false
not_damaged n image none = unless (is_damaged n image) none
  where
    unless : (b : Bool) → cond b (Some Damaged) None ≡ None → b ≡ false
    unless true some = cc
    unless false none = refl

module _ (n : ℕ) (disk : Disk) where
  pub recovers_now : (x : Image) → MayLeave disk x → RecoveryLeaves n disk x
  recovers_now x may = record { from = x; may = may; follows = inl (λ k. refl) }

  module _ (present : MayLeave disk disk.content) where
    -- once synced
    pub recovers_later : (x : Image) → Follows n disk.content x → RecoveryLeaves n disk x
    recovers_later x follows = record { from = disk.content; may = present; follows = follows }

    -- by layout 2
    pub recovers_by : fewest_blocks ≤ n → n ≤ most_blocks → (x : Image) → LeavesBy 2 n disk x → RecoveryLeaves n disk x
    recovers_by many few x = ⊎_elim (recovers_now x) (λ made. recovers_later x (⊎_elim
        (λ same. inl same)
        (λ redo. inr (record { label = record { many = many; few = few; label = made.0 }; whole = not_damaged n disk.content redo.0 }, redo.1))
        made.1))

-- An image that has a meaning passes each test.
pub passes_all : (n sectors : ℕ) (image : Image) → sectors ≡ sectors_for n → HasMeaning n image → image_refusal sectors image ≡ None
passes_all n sectors image size means =
    ap (λ r. first_of r (damage_refusal (blocks_in sectors) image)) (good_passes n sectors (image 0) means.label.many means.label.few size means.label.label)
    ∙ ap (λ m. damage_refusal m image) count_is ∙ ap (λ x. cond x (Some Damaged) None) means.whole
  where
    count_is : blocks_in sectors ≡ n
    count_is = omega (arith, size)

-- So it is never refused.
pub never_refused : (n sectors : ℕ) (image : Image) (e : OpenFault) → sectors ≡ sectors_for n → HasMeaning n image → image_refusal sectors image ≡ Some e → ⊥
never_refused n sectors image e size means refused = apart (image_refusal sectors image) (passes_all n sectors image size means) refused
  where
    apart : (r : Option OpenFault) → r ≡ None → r ≡ Some e → ⊥
    apart (Some x) none some = cc
    apart None none some = cc

second_none : {E : Type 0} (first second : Option E) → first_of first second ≡ None → second ≡ None
second_none (Some e) second is = cc
second_none None second is = is

-- What isn't refused by layout 2 is whole.
pub whole_by : (n : ℕ) (image : Image) → recovery_refusal 2 n image ≡ None → is_damaged n image ≡ false
whole_by n image none = not_damaged n image (second_none (label_refusal n (image 0)) (damage_refusal n image) none)

-- What is recovered under the good label is clean.
pub clean_by : (n : ℕ) (old new : Disk) → fewest_blocks ≤ n → n ≤ most_blocks → old.content 0 ≡ label_by 2 n → HasRecovered n old new → IsClean n new
clean_by n old new many few label done = record {
  label = record { many = many; few = few; label = done.label ∙ label };
  gate = done.gate;
  synced = done.synced;
}

-- where the label has passed
pub refusal_past : (version n : ℕ) (image : Image) → label_refusal_by version n (image 0) ≡ None
    → recovery_refusal version n image ≡ damage_refusal_by version n image
refusal_past version n image none = past (version == 1) (label_refusal_by version n (image 0)) (damage_refusal n image) none
  where
    past : (one : Bool) (first second : Option OpenFault) → first ≡ None → cond one first (first_of first second) ≡ cond one None second
    past true first second is = is
    past false (Some e) second is = cc
    past false None second is = refl

-- and where it hasn't
pub refusal_first : (version n : ℕ) (image : Image) (e : OpenFault) → label_refusal_by version n (image 0) ≡ Some e
    → recovery_refusal version n image ≡ Some e
refusal_first version n image e some = at_once (version == 1) (label_refusal_by version n (image 0)) (damage_refusal n image) some
  where
    at_once : (one : Bool) (first second : Option OpenFault) → first ≡ Some e → cond one first (first_of first second) ≡ Some e
    at_once true first second is = is
    at_once false (Some x) second is = is
    at_once false None second is = cc

-- An error is handed on.
pub handed_on : {T E : Type 0} (r : Result T E) (e : E) (P : T → Type 0) (Q : E → Type 0) → IsErrAnd r (λ y. y ≡ e) → Q e → MatchResult r P Q
handed_on (Ok x) e P Q is q = absurd is
handed_on (Err y) e P Q is q = subst Q (sym is) q

-- What a record says of an image by the layout (`one`), under a gate.
pub good_record : (one gate good : Bool) → (one || good) ≡ true → cond one None (cond (gate && not good) (Some Damaged) None) ≡ None
good_record true gate good is = refl
good_record false true true is = refl
good_record false false true is = refl
good_record false gate false is = cc

pub bad_record : (one good : Bool) → (one || good) ≡ false → cond one None (cond (true && not good) (Some Damaged) None) ≡ Some Damaged
bad_record true good is = cc
bad_record false true is = cc
bad_record false false is = refl

pub no_record : (one good : Bool) → cond one None (cond (false && not good) (Some Damaged) None) ≡ None
no_record true good = refl
no_record false good = refl

-- Once the size is one, an image is refused as a recovery of layout 2 refuses it.
pub same_refusal : (n sectors : ℕ) (image : Image) → n ≡ blocks_in sectors → is_size sectors ≡ true → image_refusal sectors image ≡ recovery_refusal 2 n image
same_refusal n sectors image count is =
    ap (λ x. first_of (cond (not x) (Some BadSize) (label_refusal (blocks_in sectors) (image 0))) (damage_refusal (blocks_in sectors) image)) is
    ∙ ap (λ m. first_of (label_refusal m (image 0)) (damage_refusal m image)) (sym count)

one_at_least : (is_open : Bool) → 1 ≤ cond is_open 3 1
one_at_least true = omega arith
one_at_least false = omega arith

-- The first sync is one of those that a recovery begins.
pub begins_then : {D : Type 0} (device : Ghosts D) (n : ℕ) (image : Image) (a b d : D) → BeginsAtMost device a b 0 1
    → BeginsAtMost device b d (writes_for n image) (syncs_for image - 1) → BeginsAtMost device a d (writes_for n image) (syncs_for image)
begins_then device n image a b d one two = record {
  few_writes = omega (arith, one.few_writes, two.few_writes);
  few_syncs = omega (arith, one.few_syncs, two.few_syncs, one_at_least (gate_open (image 1)));
}

two_at_least : (is_open : Bool) (more : ℕ) → 2 ≤ cond is_open (more + 2) 2
two_at_least true more = omega arith
two_at_least false more = omega arith

-- The label's reading is one of those that a recovery begins.
pub reads_then : {D : Type 0} (device : Ghosts D) (version n : ℕ) (image : Image) (a b d : D) → ReadsAtMost device a b 1
    → ReadsAtMost device b d (reads_by version n image - 1) → ReadsAtMost device a d (reads_by version n image)
reads_then device version n image a b d one two =
    omega (arith, one, two, two_at_least (gate_open (image 1)) (record_reads version n image + 2 * count_listed (image 2) n))

-- And where nothing follows it is one of them too.
pub reads_first : {D : Type 0} (device : Ghosts D) (version n : ℕ) (image : Image) (a b : D) → ReadsAtMost device a b 1
    → ReadsAtMost device a b (reads_by version n image)
reads_first device version n image a b one =
    omega (arith, one, two_at_least (gate_open (image 1)) (record_reads version n image + 2 * count_listed (image 2) n))

-- the same number for each layout
pub reads_2 : (n : ℕ) (image : Image) → reads_by 2 n image ≡ reads_for n image
reads_2 n image = each (gate_open (image 1)) (count_listed (image 2) n)
  where
    each : (is_open : Bool) (c : ℕ) → cond is_open (2 * c + 1 + 2 * c + 2) 2 ≡ cond is_open (4 * c + 3) 2
    each true c = omega arith
    each false c = refl

pub reads_1 : (n : ℕ) (image : Image) → reads_by 1 n image ≡ reads_for_1 n image
reads_1 n image = each (gate_open (image 1)) (count_listed (image 2) n)
  where
    each : (is_open : Bool) (c : ℕ) → cond is_open (1 + 2 * c + 2) 2 ≡ cond is_open (2 * c + 3) 2
    each true c = omega arith
    each false c = refl
