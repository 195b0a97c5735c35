-- Runs of device calls, one after another.
use Rattle.std.proofs.Common.{◌≡◌, ℕ, ◌+◌, ◌≤◌, List, Result, Ok, Err, ⊎_elim, sym, ◌∙◌, ap, subst, IsTrue, arith}
use Rattle.std.specs.Prelude.{IsOk, IsErr, OnOk, OnErr}
use Rattle.sector_disk.specs.Counting.{CountsFailure, count_up}
use Rattle.sector_disk.specs.Disk.{Disk, Image, MayLeave, MayWrite, SettlesNothing, written, settled}
use Rattle.sector_disk.specs.Moments.{Elapses}
use Rattle.sector_disk.proofs.Moments.{elapses_then, leaves_then}
use Rattle.sector_disk.specs.declared.device.SectorDevice.{Ghosts}
use Rattle.journal.specs.Calls.{BeginsAtMost, CostsAtMost, Passes, Proceeds, Reads, ReadsAtMost}
use Rattle.journal.proofs.Units.{wrote, synced_or_not}

pub not_both : {T E : Type 0} (result : Result T E) → IsOk result → IsErr result → ⊥
not_both (Ok x) ok err = cc
not_both (Err e) ok err = cc

module _ {D : Type 0} (device : Ghosts D) where
  abbrev pub Widens : Type 0
  Widens = (d : D) (s t : ℕ) (c : Image) → s ≤ t → device.left_since d t c → device.left_since d s c

  -- the writes and syncs of what a run costs
  pub begins_of : {a b : D} {writes syncs reads : ℕ} → CostsAtMost device a b writes syncs reads → BeginsAtMost device a b writes syncs
  begins_of costs = record { few_writes = costs.few_writes; few_syncs = costs.few_syncs }

  pub reads_of : {a b : D} {writes syncs reads : ℕ} → CostsAtMost device a b writes syncs reads → ReadsAtMost device a b reads
  reads_of costs = costs.few_reads

  -- the first went well
  failures_then : {T U E F : Type 0} {first : Result T E} {second : Result U F} (a b d : D) → IsOk first
      → CountsFailure (device.failures a) (device.failures b) first → CountsFailure (device.failures b) (device.failures d) second
      → CountsFailure (device.failures a) (device.failures d) second
  failures_then a b d well one two = record {
    never_falls = omega (arith, one.never_falls, two.never_falls);
    stays = λ is. two.stays is ∙ one.stays well;
    rises = λ is. two.rises is ∙ ap count_up (one.stays well);
  }

  pub passes_then : {T U E F : Type 0} {first : Result T E} {second : Result U F} (a b d : D) → Widens
      → Passes device a b first → Passes device b d second → IsOk first → Passes device a d second
  passes_then a b d widens one two well = record {
    sectors = two.sectors ∙ one.sectors;
    model = two.model ∙ one.model;
    units = two.units ∙ one.units;
    unit = λ keeps. two.unit (subst IsTrue (sym one.model) keeps) ∙ one.unit keeps;
    time = elapses_then device.time device.left_since a b d (widens d) one.time two.time;
    failures = failures_then a b d well one.failures two.failures;
  }

  pub passes_by : {T E : Type 0} {result : Result T E} (a b : D) → device.sector_count b ≡ device.sector_count a → device.keeps_model b ≡ device.keeps_model a
      → device.keeps_sectors b ≡ device.keeps_sectors a
      → (IsTrue (device.keeps_model a) → (device.disk b).unit ≡ (device.disk a).unit)
      → Elapses device.time device.left_since a b → CountsFailure (device.failures a) (device.failures b) result → Passes device a b result
  passes_by a b sectors model units unit time failures = record { sectors = sectors; model = model; units = units; unit = unit; time = time; failures = failures }

  -- the same told by another result
  pub passes_ok : {T U E F : Type 0} {first : Result T E} {second : Result U F} (a b : D) → Passes device a b first → IsOk first → IsOk second → Passes device a b second
  passes_ok {second = second} a b passes well is = record {
    sectors = passes.sectors;
    model = passes.model;
    units = passes.units;
    unit = passes.unit;
    time = passes.time;
    failures = record {
      never_falls = passes.failures.never_falls;
      stays = λ ok. passes.failures.stays well;
      rises = λ err. absurd (not_both second is err);
    };
  }

  -- the same fault told by another result
  pub passes_err : {T U E F : Type 0} {first : Result T E} {second : Result U F} (a b : D) → Passes device a b first → IsErr first → IsErr second → Passes device a b second
  passes_err {second = second} a b passes failed is = record {
    sectors = passes.sectors;
    model = passes.model;
    units = passes.units;
    unit = passes.unit;
    time = passes.time;
    failures = record {
      never_falls = passes.failures.never_falls;
      stays = λ ok. absurd (not_both second ok is);
      rises = λ err. passes.failures.rises failed;
    };
  }

  -- whatever the calls answered
  pub proceeds : {T E : Type 0} {result : Result T E} (a b : D) → Passes device a b result → Proceeds device a b
  proceeds a b passes = record {
    sectors = passes.sectors;
    model = passes.model;
    units = passes.units;
    unit = passes.unit;
    time = passes.time;
    failures = passes.failures.never_falls;
  }

  pub proceeds_then : (a b d : D) → Widens → Proceeds device a b → Proceeds device b d → Proceeds device a d
  proceeds_then a b d widens one two = record {
    sectors = two.sectors ∙ one.sectors;
    model = two.model ∙ one.model;
    units = two.units ∙ one.units;
    unit = λ keeps. two.unit (subst IsTrue (sym one.model) keeps) ∙ one.unit keeps;
    time = elapses_then device.time device.left_since a b d (widens d) one.time two.time;
    failures = omega (arith, one.failures, two.failures);
  }

  -- What keeps the model goes on keeping it, and did so before.
  pub keeps_by : (a b : D) → IsTrue (device.keeps_model a) → Proceeds device a b → IsTrue (device.keeps_model b)
  keeps_by a b keeps run = subst IsTrue (sym run.model) keeps

  pub keeps_on : {T E : Type 0} {result : Result T E} (a b : D) → IsTrue (device.keeps_model a) → Passes device a b result → IsTrue (device.keeps_model b)
  keeps_on a b keeps passes = subst IsTrue (sym passes.model) keeps

  pub kept_before : {T E : Type 0} {result : Result T E} (a b : D) → IsTrue (device.keeps_model b) → Passes device a b result → IsTrue (device.keeps_model a)
  kept_before a b keeps passes = subst IsTrue passes.model keeps

-- the units after a read, a write and a sync
pub unit_read : (old new : Disk) → new ≡ old → new.unit ≡ old.unit
unit_read old new same = ap (λ (d : Disk). d.unit) same

pub unit_written : {T E : Type 0} (result : Result T E) (old new : Disk) (k : ℕ) (bytes : List ℕ)
    → OnOk result (new ≡ written old k bytes) → OnErr result (MayWrite k old new) → new.unit ≡ old.unit
unit_written result old new k bytes ok err = ⊎_elim
    (λ same. ap (λ (d : Disk). d.unit) same) (λ some. ap (λ (d : Disk). d.unit) some.1) (wrote result old new k bytes ok err)

pub unit_synced : {T E : Type 0} (result : Result T E) (old new : Disk)
    → OnOk result (new ≡ settled old) → OnErr result (SettlesNothing old new) → new.unit ≡ old.unit
unit_synced result old new ok err = ⊎_elim (λ is. ap (λ (d : Disk). d.unit) is) (λ nothing. nothing.unit) (synced_or_not result old new ok err)

module _ {D : Type 0} (device : Ghosts D) where
  -- Runs of reads, one after another.
  pub reads_then : {T U E F : Type 0} {first : Result T E} {second : Result U F} (a b d : D) → Widens device → (n m most : ℕ) → n + m ≤ most
      → Reads device a b n first → Reads device b d m second → IsOk first → Reads device a d most second
  reads_then a b d widens n m most few one two well =
      let honest : IsTrue (device.keeps_model a) → IsTrue (device.keeps_model b) = λ keeps. keeps_on device a b keeps one.passes in
      record {
        disk = λ keeps. two.disk (honest keeps) ∙ one.disk keeps;
        stops = λ keeps. leaves_then device.time device.left_since a b d
            (MayLeave (device.disk a)) (MayLeave (device.disk b)) (MayLeave (device.disk a))
            one.passes.time two.passes.time (one.stops keeps) (two.stops (honest keeps))
            (λ x may. may) (λ x may. subst (λ (e : Disk). MayLeave e x) (one.disk keeps) may);
        passes = passes_then device a b d widens one.passes two.passes well;
        costs = record {
          few_writes = omega (arith, one.costs.few_writes, two.costs.few_writes);
          few_syncs = omega (arith, one.costs.few_syncs, two.costs.few_syncs);
          few_reads = omega (arith, few, one.costs.few_reads, two.costs.few_reads);
        };
      }

  fewer : (a b : D) (n most : ℕ) → n ≤ most → CostsAtMost device a b 0 0 n → CostsAtMost device a b 0 0 most
  fewer a b n most few costs = record {
    few_writes = costs.few_writes;
    few_syncs = costs.few_syncs;
    few_reads = omega (arith, few, costs.few_reads);
  }

  -- the same told by another result
  pub reads_ok : {T U E F : Type 0} {first : Result T E} {second : Result U F} (a b : D) (n most : ℕ) → n ≤ most
      → Reads device a b n first → IsOk first → IsOk second → Reads device a b most second
  reads_ok a b n most few run well is = record {
    disk = run.disk;
    stops = run.stops;
    passes = passes_ok device a b run.passes well is;
    costs = fewer a b n most few run.costs;
  }

  pub reads_err : {T U E F : Type 0} {first : Result T E} {second : Result U F} (a b : D) (n most : ℕ) → n ≤ most
      → Reads device a b n first → IsErr first → IsErr second → Reads device a b most second
  reads_err a b n most few run failed is = record {
    disk = run.disk;
    stops = run.stops;
    passes = passes_err device a b run.passes failed is;
    costs = fewer a b n most few run.costs;
  }
