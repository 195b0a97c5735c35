use Rattle.std.proofs.Common.{◌≡◌, ◌-◌, ◌*◌, IsTrue}
use Rattle.std.specs.Io.KnownBytes.{Appends}
use Rattle.journal.specs.Calls.{ReadsAtMost}
use Rattle.recovery.specs.Steps.{OnlyRead}
use Rattle.terminal.specs.Done.{maps_on}
use Rattle.terminal.specs.Standing.{AllStand}
use Rattle.terminal.specs.Transfer.{exports}
use Rattle.terminal.proofs.standing.print_each.Given as goal

abbrev pub invariant-loop-block : goal.invariant-loop-block
invariant-loop-block g l =
    let D = g.D.SectorDevice in
    let old = l.initial.device in
    let now = l.device in
    record {
      printed : IsTrue (D.keeps_model old) → Appends (g.W.Write.contents l.initial.output) (g.W.Write.contents l.output)
          (exports l.form (maps_on D old) l.first (l.block - l.first));
      whole : IsTrue (D.keeps_model old) → AllStand l.first l.block (D.disk old).content;
      well : D.failures now ≡ D.failures old;
      only_read : OnlyRead D old now;
      reads : ReadsAtMost D old now (5 * (l.block - l.first));
    }
