use Rattle.std.proofs.Common.{◌≡◌, ◌∙◌, ◌+◌, ◌-◌, ◌<◌, ◌≤◌, ℕ, List, ap, arith, inl, inr, ⊎_elim, length, subst}
use Rattle.std.proofs.lemmas.Result.{on_ok_weaker}
use Rattle.journal.specs.Store.{MeansBy}
use Rattle.journal.specs.Maps.{latest}
use Rattle.terminal.specs.Findings.{AreSound, blocks_for, said_all}
use Rattle.terminal.specs.Imported.{Imports}
use Rattle.terminal.specs.Transfer.{as_blocks, spilled_from}
use Rattle.terminal.proofs.Saving.{keeps_none}
use Rattle.terminal.proofs.importing.import_files.Goals as goal

pub returns-in-Ok-clause-imported : goal.returns-in-Ok-clause-imported
returns-in-Ok-clause-imported g c =
    let read = c.in-Ok.ensures.said in
    let is : c.as_slice.result.now ≡ said_all c.args.form read.0 = c.as_slice.ensures.value ∙ read.3 in
    let count = c.blocks-2.ensures.value in
    on_ok_weaker c.import_bytes.result (λ imports. record {
      files = read.0;
      each = read.1;
      sound = subst (λ (n : ℕ). AreSound c.args.form (n - c.args.first) read.0) count read.2;
      below = subst (λ (n : ℕ). c.args.first < n) count c.in-Ok.ensures.below;
      there = subst (λ (n : ℕ). c.args.first + blocks_for (length (said_all c.args.form read.0)) ≤ n) count
          (subst (λ (l : List ℕ). c.args.first + blocks_for (length l) ≤ c.blocks-2.result) read.3 c.in-Ok.ensures.there);
      imports = subst (λ (l : List ℕ). Imports c.args.first (as_blocks l) c.args.store.now c.import_bytes.new.store) is imports;
    }) c.import_bytes.ensures.imported

pub returns-in-Ok-clause-kept : goal.returns-in-Ok-clause-kept
returns-in-Ok-clause-kept g c = λ m stands live image left.
    let read = c.in-Ok.ensures.said in
    let is : c.as_slice.result.now ≡ said_all c.args.form read.0 = c.as_slice.ensures.value ∙ read.3 in
    ⊎_elim (λ old. inl old)
    (λ new. inr (
      read.0,
      read.1,
      subst (λ (n : ℕ). AreSound c.args.form (n - c.args.first) read.0) c.blocks-2.ensures.value read.2,
      subst (λ (l : List ℕ). MeansBy c.args.store.now (latest (spilled_from m c.args.first (as_blocks l))) image) is new,
    ))
    (c.import_bytes.ensures.kept m stands live image left)

pub returns-in-Err-clause-kept : goal.returns-in-Err-clause-kept
returns-in-Err-clause-kept g c = λ m stands live image left.
    inl (keeps_none g.met.D.SectorDevice.only_now c.args.store.now m stands live image left)

pub returns-in-Ok-clause-begins : goal.returns-in-Ok-clause-begins
returns-in-Ok-clause-begins g c =
    let count = ap (λ (l : List ℕ). blocks_for (length l)) c.as_slice.ensures.value in
    let few = c.import_bytes.ensures.begins in
    record { few_writes = omega (arith, count, c.blocks-2.ensures.value, c.in-Ok.ensures.there, few.few_writes); few_syncs = few.few_syncs }

pub returns-in-Ok-clause-reads : goal.returns-in-Ok-clause-reads
returns-in-Ok-clause-reads g c =
    let count = ap (λ (l : List ℕ). blocks_for (length l)) c.as_slice.ensures.value in
    omega (arith, count, c.blocks-2.ensures.value, c.in-Ok.ensures.there, c.import_bytes.ensures.reads)
