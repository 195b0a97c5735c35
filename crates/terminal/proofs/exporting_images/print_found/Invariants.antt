use Rattle.std.proofs.Common.{◌≡◌, ◌-◌, ◌*◌, IsTrue}
use Rattle.std.specs.Io.KnownBytes.{Appends}
use Rattle.journal.specs.Calls.{ReadsAtMost}
use Rattle.journal.specs.Maps.{Maps}
use Rattle.recovery.specs.Steps.{OnlyRead}
use Rattle.terminal.specs.Transfer.{IsFound, exports}
use Rattle.terminal.proofs.exporting_images.print_found.Given as goal

abbrev pub invariant-loop-block : goal.invariant-loop-block
invariant-loop-block g l =
    let D = g.D.SectorDevice in
    let old = l.initial.device in
    let now = l.device in
    record {
      printed : IsTrue (D.keeps_model old) → (m : Maps) → IsFound l.view (D.disk old).content m
          → Appends (g.W.Write.contents l.initial.output) (g.W.Write.contents l.output) (exports l.form m l.first (l.block - l.first));
      well : D.failures now ≡ D.failures old;
      only_read : OnlyRead D old now;
      reads : ReadsAtMost D old now (2 * (l.block - l.first));
    }
