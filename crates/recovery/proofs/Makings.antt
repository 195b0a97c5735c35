-- How calls that make an image follow one another.
use Rattle.std.proofs.Common.{◌≡◌, ◌≢◌, inl, inr, ⊎_elim, ℕ, zero, suc, ◌+◌, ◌*◌, ◌<◌, ◌≤◌, false, List, Result, Ok, Err, refl, sym, ◌∙◌, ap, subst, arith, add-one, IsTrue}
use Rattle.std.specs.Prelude.{IsOk, IsErr, OnOk, IfErr}
use Rattle.std.proofs.Math.Nat.{mul-suc, mul-le-mul_left}
use Rattle.std.proofs.lemmas.Bool.{cases_eq}
use Rattle.sector_disk.specs.Counting.{count_up}
use Rattle.sector_disk.specs.Disk.{Image, Disk, MayLeave, with_sector, written, settled}
use Rattle.sector_disk.specs.Pages.{IsPaged}
use Rattle.sector_disk.specs.declared.device.SectorDevice.{Ghosts}
use Rattle.sector_disk.proofs.Moments.{leaves_then, elapses_refl, sector_same, sector_other}
use Rattle.journal.specs.Calls.{StopsLeave, BeginsAtMost, ReadsAtMost, Passes, Proceeds}
use Rattle.journal.specs.Layouts.{asks}
use Rattle.journal.specs.Steps.{WritesOnly, IsAsSynced}
use Rattle.journal.specs.declared.sizes.Layout.{Layout}
use Rattle.journal.specs.declared.sizes.Layout.TheVariants.{Journal, Pages}
use Rattle.journal.proofs.Calls.{Widens, proceeds, proceeds_then}
use Rattle.journal.proofs.Paging.{only_then, left_then}
use Rattle.recovery.specs.Making.{InUnit, IsApart, IsUnlabelled, IsReady, IsMade, TakenAway, Sealed, WrittenLeaves, Carries, reads_below}
use Rattle.recovery.specs.Steps.{OnlyRead, WentWell, TellsFault}
use Rattle.recovery.specs.declared.fault.OpenFault.TheVariants.{Device}
use Rattle.recovery.specs.declared.fault.UpgradeFault.{UpgradeFault}
use Rattle.recovery.specs.declared.fault.UpgradeFault.TheVariants.{New}
use Rattle.recovery.proofs.Formats.{same_or_not}
use Rattle.recovery.proofs.Upgrades.{only_read_then}

-- The label lies apart from no image.
pub not_apart : (layout : Layout) → ¬ IsApart layout 0
not_apart Journal apart = apart refl
not_apart Pages apart = absurd (omega (arith, apart))

apart_other : (layout : Layout) (k : ℕ) → IsApart layout k → k ≢ 0
apart_other Journal k apart = apart
apart_other Pages k apart = λ first. absurd (omega (arith, apart, first))

-- What is written apart from the label stays beside its unit.
pub apart_unit : (layout : Layout) (disk : Disk) → (layout ≡ Journal → (k : ℕ) → disk.unit k ≡ k) → IsPaged disk
    → (k : ℕ) → IsApart layout k → ¬ InUnit disk 0 k
apart_unit Journal disk own paged k apart same = apart (sym (own refl k) ∙ same ∙ own refl 0)
apart_unit Pages disk own paged k apart same = absurd (omega (arith, apart, paged k 0 same))

-- What a stop leaves.
module _ (label : List ℕ) (disk : Disk) where
  -- before the first write
  pub half_now : (c : Image) → MayLeave disk c → TakenAway label disk c
  half_now c may = ⊎_elim
      (λ good. inr (good, record { from = c; may = may; label = refl; rest = λ k out. refl }))
      (λ bad. inl bad)
      (same_or_not (c 0) label)

  -- while the label is cleared
  pub half_cleared : MayLeave disk disk.content → disk.content 0 ≡ label → (c : Image) → IsAsSynced (InUnit disk 0) (settled disk) c → TakenAway label disk c
  half_cleared present was c is = ⊎_elim
      (λ good. inr (good, record { from = disk.content; may = present; label = good ∙ sym was; rest = λ k out. is k out refl }))
      (λ bad. inl bad)
      (same_or_not (c 0) label)

  -- while it is written
  pub sealed : MayLeave disk disk.content → ((k : ℕ) → disk.unsynced k ≡ false) → (c : Image) → IsAsSynced (InUnit disk 0) disk c → Sealed label disk c
  sealed present synced c is = ⊎_elim
      (λ good. inr (good, λ k out. is k out (synced k) ∙ sym (present k (synced k))))
      (λ bad. inl bad)
      (same_or_not (c 0) label)

  -- Apart from the label no write puts the good one there, and no stop does.
  pub bad_left : (layout : Layout) → MayLeave disk disk.content → IsUnlabelled label disk → (c : Image) → IsAsSynced (IsApart layout) disk c → c 0 ≢ label
  bad_left layout present bad c is good =
      bad.other (present 0 (bad.synced 0) ∙ sym (is 0 (not_apart layout) (bad.synced 0)) ∙ good)

module _ {D : Type 0} (device : Ghosts D) where
  -- What suits keeps the model, and goes on doing so.
  pub suits_model : ((d : D) → IsTrue (device.keeps_sectors d) → IsTrue (device.keeps_model d)) → (layout : Layout) (d : D)
      → IsTrue (asks device layout d) → IsTrue (device.keeps_model d)
  suits_model both Journal d is = both d is
  suits_model both Pages d is = is

  pub suits_on : (layout : Layout) (a b : D) → Proceeds device a b → IsTrue (asks device layout a) → IsTrue (asks device layout b)
  suits_on Journal a b run is = subst IsTrue (sym run.units) is
  suits_on Pages a b run is = subst IsTrue (sym run.model) is

  pub suits_before : (layout : Layout) (a b : D) → Proceeds device a b → IsTrue (asks device layout b) → IsTrue (asks device layout a)
  suits_before Journal a b run is = subst IsTrue run.units is
  suits_before Pages a b run is = subst IsTrue run.model is

  -- by sectors each unit is a sector
  pub suits_own : ((d : D) (k : ℕ) → IsTrue (device.keeps_sectors d) → (device.disk d).unit k ≡ k) → (layout : Layout) (d : D)
      → IsTrue (asks device layout d) → layout ≡ Journal → (k : ℕ) → (device.disk d).unit k ≡ k
  suits_own own Journal d is by k = own d k is
  suits_own own Pages d is by k = absurd (cc)

  -- one run of calls after another
  pub only_on : (P : ℕ → Type 0) (layout : Layout) (a b d : D) → Proceeds device a b
      → (IsTrue (asks device layout a) → WritesOnly P (device.disk a) (device.disk b))
      → (IsTrue (asks device layout b) → WritesOnly P (device.disk b) (device.disk d))
      → IsTrue (asks device layout a) → WritesOnly P (device.disk a) (device.disk d)
  only_on P layout a b d one early late is =
      only_then P (device.disk a) (device.disk b) (device.disk d) (early is) (late (suits_on layout a b one is))

  pub stops_on : (P : ℕ → Type 0) (layout : Layout) (a b d : D) → Proceeds device a b → Proceeds device b d
      → (IsTrue (asks device layout a) → WritesOnly P (device.disk a) (device.disk b))
      → (IsTrue (asks device layout a) → StopsLeave device a b (IsAsSynced P (device.disk a)))
      → (IsTrue (asks device layout b) → StopsLeave device b d (IsAsSynced P (device.disk b)))
      → IsTrue (asks device layout a) → StopsLeave device a d (IsAsSynced P (device.disk a))
  stops_on P layout a b d one two only early late is = leaves_then device.time device.left_since a b d
      (IsAsSynced P (device.disk a)) (IsAsSynced P (device.disk b)) (IsAsSynced P (device.disk a))
      one.time two.time (early is) (late (suits_on layout a b one is))
      (λ x at. at) (λ x at. left_then P (device.disk a) (device.disk b) x (only is) at)

  pub begins_then : (a b d : D) (w s v t most_writes most_syncs : ℕ) → w + v ≤ most_writes → s + t ≤ most_syncs
      → BeginsAtMost device a b w s → BeginsAtMost device b d v t → BeginsAtMost device a d most_writes most_syncs
  begins_then a b d w s v t most_writes most_syncs few less one two = record {
    few_writes = omega (arith, few, one.few_writes, two.few_writes);
    few_syncs = omega (arith, less, one.few_syncs, two.few_syncs);
  }

  -- Nothing is done.
  pub only_read_none : ((d : D) (c : Image) → device.left_since d (device.time d) c → MayLeave (device.disk d) c) → (d : D) → OnlyRead device d d
  only_read_none only_now d = record {
    disk = λ keeps. refl;
    stops = λ keeps c since. only_now d c since;
    passes = record { sectors = refl; model = refl; units = refl; unit = λ keeps. refl; time = elapses_refl device.time device.left_since d; failures = omega arith };
    begins = record { few_writes = omega arith; few_syncs = omega arith };
  }

if_err : {T E : Type 0} (r : Result T E) (P Q : E → Type 0) → ((e : E) → P e → Q e) → IfErr r P → IfErr r Q
if_err (Ok x) P Q f p = p
if_err (Err e) P Q f p = f e p

pub both_ok : {T E : Type 0} (r : Result T E) {P Q R : Type 0} → (P → Q → R) → OnOk r P → OnOk r Q → OnOk r R
both_ok (Ok x) f p q = f p q
both_ok (Err e) f p q = p

on_ok : {T E : Type 0} (r : Result T E) (P Q : Type 0) → (P → Q) → OnOk r P → OnOk r Q
on_ok (Ok x) P Q f p = f p
on_ok (Err e) P Q f p = p

module _ {A B : Type 0} (G : Ghosts A) (H : Ghosts B) where
  tells_then : (a b d : A) (x y z : B) → WentWell G H a b x y → (e : UpgradeFault) → TellsFault G H b d y z e → TellsFault G H a d x z e
  tells_then a b d x y z well e = ⊎_elim
      (λ old. inl (old.0, old.1 ∙ ap count_up well.0, old.2 ∙ well.1))
      (λ new. inr (new.0, new.1 ∙ well.0, new.2 ∙ ap count_up well.1))

  -- one run of calls that went well, and then another
  pub carries_then : {T U : Type 0} {first : Result T UpgradeFault} {second : Result U UpgradeFault} (a b d : A) (x y z : B) → Widens G → Widens H
      → (w s r v t q most_writes most_syncs most_reads : ℕ) → w + v ≤ most_writes → s + t ≤ most_syncs → r + q ≤ most_reads
      → WentWell G H a b x y → Carries G H a b x y w s r first → Carries G H b d y z v t q second
      → Carries G H a d x z most_writes most_syncs most_reads second
  carries_then {second = second} a b d x y z widens widens' w s r v t q most_writes most_syncs most_reads few less fewer well one two = record {
    source = only_read_then G a b d widens one.source two.source;
    passes = proceeds_then H x y z widens' one.passes two.passes;
    begins = begins_then H x y z w s v t most_writes most_syncs few less one.begins two.begins;
    few_reads = omega (arith, fewer, one.few_reads, two.few_reads);
    faults = if_err second (TellsFault G H b d y z) (TellsFault G H a d x z) (tells_then a b d x y z well) two.faults;
    well = on_ok second (WentWell G H b d y z) (WentWell G H a d x z) (λ then. (then.0 ∙ well.0, then.1 ∙ well.1)) two.well;
  }

  -- A step of the target alone went well, or failed.
  pub carries_well : {T : Type 0} (a : A) (x y : B) → OnlyRead G a a → (w s r : ℕ)
      → {U E : Type 0} {step : Result U E} → IsOk step → Passes H x y step → BeginsAtMost H x y w s → ReadsAtMost H x y r
      → (value : T) → Carries G H a a x y w s r (Ok value)
  carries_well a x y none w s r is passes begins reads value = record {
    source = none;
    passes = proceeds H x y passes;
    begins = begins;
    few_reads = reads;
    faults = tt;
    well = (refl, passes.failures.stays is);
  }

  pub carries_failed : {T : Type 0} (a : A) (x y : B) → OnlyRead G a a → (w s r : ℕ)
      → {U E : Type 0} {step : Result U E} → IsErr step → Passes H x y step → BeginsAtMost H x y w s → ReadsAtMost H x y r
      → Carries G H {T = T} a a x y w s r (Err (New Device))
  carries_failed a x y none w s r is passes begins reads = record {
    source = none;
    passes = proceeds H x y passes;
    begins = begins;
    few_reads = reads;
    faults = inr (refl, refl, passes.failures.rises is);
    well = tt;
  }

-- The label is written over what is ready.
module _ (label : List ℕ) (is_filled : Image → Type 0) (layout : Layout) (disk : Disk)
    (own : layout ≡ Journal → (k : ℕ) → disk.unit k ≡ k) (paged : IsPaged disk)
    (kept : (old new : Image) → is_filled old → ((k : ℕ) → IsApart layout k → new k ≡ old k) → is_filled new) (ready : IsReady label is_filled disk) where
  pub sealed_leaves : (c : Image) → Sealed label disk c → WrittenLeaves label is_filled c
  sealed_leaves c = ⊎_elim
      (λ bad. inl bad)
      (λ good. inr (good.0, kept disk.content c ready.filled (λ k apart. good.1 k (apart_unit layout disk own paged k apart))))

  pub made_of : IsMade label is_filled (settled (written disk 0 label))
  made_of = record {
    filled = kept disk.content (with_sector disk.content 0 label) ready.filled (λ k apart. sector_other disk.content 0 k label (apart_other layout k apart));
    labelled = sector_same disk.content 0 label;
    synced = λ k. refl;
  }

-- One block more is written.
pub times_more : (w b : ℕ) → w * b + w ≤ w * (b + 1)
times_more w b =
    let one : w * (b + 1) ≡ w * b + w = ap (λ k. w * k) (add-one b) ∙ mul-suc w b in
    omega (arith, one)

-- So are all that are left.
pub times_within : (w b n : ℕ) → b < n → w * b + w ≤ w * n
times_within w b n below =
    let more = times_more w b in
    let most : w * (b + 1) ≤ w * n = mul-le-mul_left w (omega (arith, below)) in
    omega (arith, more, most)

-- One block more is read.
pub read_more : (reads : ℕ → ℕ) (b x y z : ℕ) → y ≤ x + reads_below reads b → z ≤ y + reads b → z ≤ x + reads_below reads (b + 1)
read_more reads b x y z one two =
    let one_more : suc b ≡ b + 1 = omega arith in
    subst (λ k. z ≤ x + reads_below reads k) one_more (omega (arith, one, two))

reads_within : (reads : ℕ → ℕ) (k m : ℕ) → k ≤ m → reads_below reads k ≤ reads_below reads m
reads_within reads k zero within =
    let none : k ≡ 0 = omega (arith, within) in
    subst (λ j. reads_below reads j ≤ reads_below reads 0) (sym none) (omega arith)
reads_within reads k (suc m) within = elim (cases_eq k (suc m)) [
  | inl same ↦ subst (λ j. reads_below reads j ≤ reads_below reads (suc m)) (sym same) (omega arith)
  | inr other ↦ let fewer : reads_below reads k ≤ reads_below reads m = reads_within reads k m (omega (arith, within, other)) in omega (arith, fewer)
]

-- So are all that are left.
pub read_within : (reads : ℕ → ℕ) (b m x y z : ℕ) → b < m → y ≤ x + reads_below reads b → z ≤ y + reads b → z ≤ x + reads_below reads m
read_within reads b m x y z below one two =
    let most : reads_below reads (b + 1) ≤ reads_below reads m = reads_within reads (b + 1) m (omega (arith, below)) in
    let now : z ≤ x + reads_below reads (b + 1) = read_more reads b x y z one two in
    omega (arith, most, now)
