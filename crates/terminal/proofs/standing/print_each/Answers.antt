use Rattle.std.proofs.Common.{◌≡◌, ◌∙◌, IsTrue, arith, subst, sym, true}
use Rattle.std.specs.Io.KnownBytes.{Appends}
use Rattle.sector_disk.specs.Disk.{Disk}
use Rattle.journal.specs.Maps.{Maps, contents}
use Rattle.recovery.proofs.Recoveries.{handed_on}
use Rattle.recovery.proofs.Upgrades.{only_read_then}
use Rattle.image_care.specs.Standing.{stands_whole}
use Rattle.terminal.specs.Done.{maps_on}
use Rattle.terminal.specs.Transfer.{exported}
use Rattle.terminal.proofs.Standings.{one_more, one_unhad, same_maps}
use Rattle.terminal.proofs.Transferring.{exported_more}
use Rattle.terminal.proofs.standing.print_each.Goals as goal

pub returns-in_err-print_current-clause-only_read : goal.returns-in_err-print_current-clause-only_read
returns-in_err-print_current-clause-only_read g c =
    only_read_then g.D.SectorDevice c.args.device.now c.loop-block.device c.print_current.new.device g.met.D.SectorDevice.widens
    c.loop-block.invariant.only_read c.print_current.ensures.only_read

pub returns-in_err-print_current-clause-reads : goal.returns-in_err-print_current-clause-reads
returns-in_err-print_current-clause-reads g c =
    omega (arith, c.loop-block.invariant.reads, c.print_current.ensures.reads, c.loop-block-test.true, c.loop-block.auto.block)

pub returns-in_err-print_current-clause-unhad : goal.returns-in_err-print_current-clause-unhad
returns-in_err-print_current-clause-unhad g c =
    handed_on c.from_residual.result _ _ _ c.from_residual.ensures.1
    (λ is. one_unhad g.D.SectorDevice c.args.first c.loop-block.block c.args.past c.args.device.now c.loop-block.device c.print_current.new.device
    (omega (arith, c.loop-block.auto.block)) (omega (arith, c.loop-block-test.true)) c.loop-block.invariant.well c.loop-block.invariant.only_read
    (c.in_err-print_current.ensures.unhad is))

pub loop-block-preserved : goal.loop-block-preserved
loop-block-preserved g c =
    let D = g.D.SectorDevice in
    let inv = c.loop-block.invariant in
    let old = c.args.device.now in
    let now = c.loop-block.device in
    let block = c.loop-block.block in
    let honest : IsTrue (D.keeps_model old) → IsTrue (D.keeps_model now) = λ keeps. subst IsTrue (sym inv.only_read.passes.model) keeps in
    record {
      printed = λ keeps.
          exported_more c.args.form (maps_on D old) c.args.first block _ _ _ (omega (arith, c.loop-block.auto.block)) (inv.printed keeps)
          (subst (λ (m : Maps). Appends (g.W.Write.contents c.loop-block.output) (g.W.Write.contents c.print_current.new.output) (exported c.args.form (contents m block)))
          (same_maps D old now inv.only_read.passes.sectors (inv.only_read.disk keeps)) (c.in_ok-print_current.ensures.printed (honest keeps)));
      whole = λ keeps. one_more (D.disk old).content c.args.first block (inv.whole keeps)
          (subst (λ (d : Disk). stands_whole d.content block ≡ true) (inv.only_read.disk keeps) (c.in_ok-print_current.ensures.whole (honest keeps)));
      well = c.in_ok-print_current.ensures.well ∙ inv.well;
      only_read = only_read_then D old now c.print_current.new.device g.met.D.SectorDevice.widens inv.only_read c.print_current.ensures.only_read;
      reads = omega (arith, inv.reads, c.print_current.ensures.reads, c.loop-block.auto.block);
    }
