use Rattle.std.proofs.Common.{◌≡◌, ◌*◌, IsTrue, vec_len}
use Rattle.journal.specs.Calls.{ReadsAtMost}
use Rattle.recovery.specs.Steps.{OnlyRead}
use Rattle.image_care.specs.Examined.{joined_below}
use Rattle.image_care.specs.View.{found_by}
use Rattle.image_care.proofs.all_blocks.collect.Given as goal

abbrev pub invariant-loop-b : goal.invariant-loop-b
invariant-loop-b g l =
    let D = g.D.SectorDevice in
    let old = l.initial.device in
    let now = l.device in
    record {
      so_far : IsTrue (D.keeps_model old) → l.bytes.items ≡ joined_below (found_by l.view (D.disk old).content) l.b;
      length : vec_len l.bytes ≡ 1024 * l.b;
      well : D.failures now ≡ D.failures old;
      only_read : OnlyRead D old now;
      reads : ReadsAtMost D old now (2 * l.b);
    }
