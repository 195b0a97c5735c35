use Rattle.std.proofs.Common.{◌≡◌, ◌∙◌, ◌+◌, ◌*◌, ℕ, List, sym, subst, arith, rules, Err, IsTrue}
use Rattle.sector_disk.specs.Disk.{Disk}
use Rattle.journal.specs.Calls.{ReadsAtMost}
use Rattle.journal.specs.Layouts.{asks}
use Rattle.recovery.specs.Making.{IsApart, Carries}
use Rattle.recovery.proofs.Makings.{suits_on, only_on, stops_on, carries_then, read_more, read_within, times_more, times_within}
use Rattle.recovery.proofs.making.carry_blocks.Goals as goal

pub loop-b-preserved : goal.loop-b-preserved
loop-b-preserved g c =
    let A = g.A.SectorDevice in
    let B = g.B.SectorDevice in
    let S = g.S.Source in
    let T = g.T.Target in
    let inv = c.loop-b.invariant in
    let step = c.carry_block.ensures in
    let ok = c.in_ok-carry_block.ensures in
    let n = c.args.blocks.number in
    let b = c.loop-b.b in
    let from = c.args.old.now in
    let read = c.loop-b.old in
    let to = c.args.new.now in
    let mid = c.loop-b.new in
    let next = c.carry_block.new.new in
    let image = (A.disk from).content in
    let honest : IsTrue (A.keeps_model from) → IsTrue (A.keeps_model read) = λ keeps. subst IsTrue (sym inv.carries.source.passes.model) keeps in
    let kept : IsTrue (asks B T.layout to) → IsTrue (asks B T.layout mid) = suits_on B T.layout to mid inv.carries.passes in
    let same : IsTrue (A.keeps_model from) → S.bytes_in c.loop-b.source (A.disk read).content ≡ S.bytes_in c.args.source.now image =
    λ keeps t. inv.same_bytes t (inv.carries.source.disk keeps t).content in
    record {
      laid = λ source keeps.
          subst (λ (given : ℕ → List ℕ). T.has_laid c.carry_block.new.target n (b + 1) given (B.disk next).content) (same source)
          (ok.laid (honest source) (kept keeps)
          (subst (λ (given : ℕ → List ℕ). T.has_laid c.loop-b.target n b given (B.disk mid).content) (sym (same source)) (inv.laid source keeps)));
      noted = λ source.
          subst (λ (d : Disk). S.has_noted c.args.source.now c.carry_block.new.source d.content (b + 1)) (inv.carries.source.disk source)
          (ok.noted (honest source) c.args.source.now (subst (λ (d : Disk). S.has_noted c.args.source.now c.loop-b.source d.content b) (sym (inv.carries.source.disk source)) (inv.noted source)));
      same_size = step.same_size ∙ inv.same_size;
      same_bytes = step.same_bytes ∙ inv.same_bytes;
      same_reads = step.same_reads ∙ inv.same_reads;
      left = λ keeps k left. ok.left (kept keeps) k left ∙ inv.left keeps k left;
      only = only_on B (IsApart T.layout) T.layout to mid next inv.carries.passes inv.only step.only;
      stops = stops_on B (IsApart T.layout) T.layout to mid next inv.carries.passes step.carries.passes inv.only inv.stops step.stops;
      carries = carries_then A B from read c.carry_block.new.old to mid next g.met.A.SectorDevice.widens g.met.B.SectorDevice.widens
          (T.block_writes * b) 0 0 T.block_writes 0 0 (T.block_writes * (b + 1)) 0 0 (times_more T.block_writes b) (omega arith) (omega arith)
          inv.carries.well inv.carries ok.carries;
      reads = λ source. read_more (S.reads_in c.args.source.now image) b
          (A.counts from).reads (A.counts read).reads (A.counts c.carry_block.new.old).reads (inv.reads source)
          (subst (λ (reads : ℕ → ℕ). ReadsAtMost A read c.carry_block.new.old (reads b)) (λ t. inv.same_reads t (inv.carries.source.disk source t).content)
          (step.reads (honest source)));
    }

pub returns-in_err-carry_block-clause-carries : goal.returns-in_err-carry_block-clause-carries
returns-in_err-carry_block-clause-carries g c =
    let A = g.A.SectorDevice in
    let B = g.B.SectorDevice in
    let T = g.T.Target in
    let w = T.block_writes in
    let inv = c.loop-b.invariant in
    let told : c.from_residual.result ≡ Err c.in_err-carry_block.field-0.0 = search rules in
    subst (λ r. Carries A B c.args.old.now c.carry_block.new.old c.args.new.now c.carry_block.new.new (w * c.args.blocks.number) 0 0 r) (sym told)
    (carries_then A B c.args.old.now c.loop-b.old c.carry_block.new.old c.args.new.now c.loop-b.new c.carry_block.new.new
    g.met.A.SectorDevice.widens g.met.B.SectorDevice.widens (w * c.loop-b.b) 0 0 w 0 0 (w * c.args.blocks.number) 0 0
    (times_within w c.loop-b.b c.args.blocks.number c.loop-b-test.true) (omega arith) (omega arith)
    inv.carries.well inv.carries c.in_err-carry_block.ensures.carries)

pub returns-in_err-carry_block-clause-reads : goal.returns-in_err-carry_block-clause-reads
returns-in_err-carry_block-clause-reads g c = λ source.
    let A = g.A.SectorDevice in
    let inv = c.loop-b.invariant in
    let from = c.args.old.now in
    let read = c.loop-b.old in
    let new = c.carry_block.new.old in
    let honest : IsTrue (A.keeps_model read) = subst IsTrue (sym inv.carries.source.passes.model) source in
    read_within (g.S.Source.reads_in c.args.source.now (A.disk from).content) c.loop-b.b c.args.blocks.number
    (A.counts from).reads (A.counts read).reads (A.counts new).reads c.loop-b-test.true (inv.reads source)
    (subst (λ (reads : ℕ → ℕ). ReadsAtMost A read new (reads c.loop-b.b)) (λ t. inv.same_reads t (inv.carries.source.disk source t).content) (c.carry_block.ensures.reads honest))
