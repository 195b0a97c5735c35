use Rattle.std.proofs.Common.{◌∙◌, List, ℕ, IsTrue, ap, arith, subst, sym}
use Rattle.std.specs.Io.KnownBytes.{Appends}
use Rattle.sector_disk.specs.Disk.{Disk}
use Rattle.recovery.proofs.Upgrades.{only_read_then}
use Rattle.image_care.specs.View.{found_by}
use Rattle.terminal.specs.Transfer.{exported}
use Rattle.terminal.proofs.Transferring.{exported_more}
use Rattle.terminal.proofs.exporting_images.print_found.Goals as goal

pub returns-in_err-print_block-clause-only_read : goal.returns-in_err-print_block-clause-only_read
returns-in_err-print_block-clause-only_read g c =
    only_read_then g.D.SectorDevice c.args.device.now c.loop-block.device c.print_block.new.device g.met.D.SectorDevice.widens
    c.loop-block.invariant.only_read c.print_block.ensures.only_read

pub returns-in_err-print_block-clause-reads : goal.returns-in_err-print_block-clause-reads
returns-in_err-print_block-clause-reads g c =
    omega (arith, c.loop-block.invariant.reads, c.print_block.ensures.reads, c.loop-block-test.true, c.loop-block.auto.block)

pub loop-block-preserved : goal.loop-block-preserved
loop-block-preserved g c =
    let D = g.D.SectorDevice in
    let inv = c.loop-block.invariant in
    let old = c.args.device.now in
    let view = c.args.view.now in
    let block = c.loop-block.block in
    record {
      printed = λ keeps m found.
          let honest : IsTrue (D.keeps_model c.loop-block.device) = subst IsTrue (sym inv.only_read.passes.model) keeps in
          let bytes = ap (λ (d : Disk). found_by view d.content block) (inv.only_read.disk keeps) ∙ found block (omega (arith, c.loop-block-test.true, c.requires.there)) in
          exported_more c.args.form m c.args.first block _ _ _ (omega (arith, c.loop-block.auto.block))
          (inv.printed keeps m found)
          (subst (λ (l : List ℕ). Appends (g.W.Write.contents c.loop-block.output) (g.W.Write.contents c.print_block.new.output) (exported c.args.form l)) bytes
          (c.in_ok-print_block.ensures.ok honest));
      well = c.in_ok-print_block.ensures.well ∙ inv.well;
      only_read = only_read_then D old c.loop-block.device c.print_block.new.device g.met.D.SectorDevice.widens inv.only_read c.print_block.ensures.only_read;
      reads = omega (arith, inv.reads, c.print_block.ensures.reads, c.loop-block.auto.block);
    }
