use Rattle.std.proofs.Common.{◌≡◌, ℕ, ◌*◌, IsTrue, Ok}
use Rattle.journal.specs.Calls.{StopsLeave, ReadsAtMost}
use Rattle.journal.specs.Steps.{WritesOnly, IsAsSynced}
use Rattle.journal.specs.Layouts.{asks}
use Rattle.recovery.specs.Making.{IsApart, Carries, reads_below}
use Rattle.recovery.proofs.making.carry_blocks.Given as goal

abbrev pub invariant-loop-b : goal.invariant-loop-b
invariant-loop-b g l =
    let A = g.A.SectorDevice in
    let B = g.B.SectorDevice in
    let S = g.S.Source in
    let T = g.T.Target in
    let first = l.initial.source in
    let from = l.initial.old in
    let to = l.initial.new in
    let n = l.fn.blocks.number in
    let image = (A.disk from).content in
    record {
      laid : IsTrue (A.keeps_model from) → IsTrue (asks B T.layout to) → T.has_laid l.target n l.b (S.bytes_in first image) (B.disk l.new).content;
      noted : IsTrue (A.keeps_model from) → S.has_noted first l.source image l.b;
      same_size : S.sectors_of l.source ≡ S.sectors_of first;
      same_bytes : S.bytes_in l.source ≡ S.bytes_in first;
      same_reads : S.reads_in l.source ≡ S.reads_in first;
      left : IsTrue (asks B T.layout to) → (k : ℕ) → T.is_left n k → (B.disk l.new).content k ≡ (B.disk to).content k;
      only : IsTrue (asks B T.layout to) → WritesOnly (IsApart T.layout) (B.disk to) (B.disk l.new);
      stops : IsTrue (asks B T.layout to) → StopsLeave B to l.new (IsAsSynced (IsApart T.layout) (B.disk to));
      carries : Carries A B {T = Unit {0}} from l.old to l.new (T.block_writes * l.b) 0 0 (Ok tt);
      reads : IsTrue (A.keeps_model from) → ReadsAtMost A from l.old (reads_below (S.reads_in first image) l.b);
    }
