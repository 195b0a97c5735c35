use Rattle.std.proofs.Common.{◌≡◌, length}
use Rattle.sector_disk.specs.Counting.{count_up_by}
use Rattle.journal.specs.Calls.{ReadsAtMost}
use Rattle.recovery.specs.Steps.{OnlyRead}
use Rattle.image_care.specs.Through.{WereHad}
use Rattle.image_care.proofs.reading_through.read_through.Given as goal

abbrev pub invariant-loop-k : goal.invariant-loop-k
invariant-loop-k g l =
    let D = g.D.SectorDevice in
    let old = l.initial.device in
    let now = l.device in
    record {
      were_had : WereHad (D.keeps_model old) (D.disk old).content l.k l.bytes.items l.unread.items;
      failed : D.failures now ≡ count_up_by (length l.unread.items) (D.failures old);
      only_read : OnlyRead D old now;
      once : ReadsAtMost D old now l.k;
    }
