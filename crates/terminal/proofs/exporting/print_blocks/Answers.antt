use Rattle.std.proofs.Common.{◌∙◌, arith}
use Rattle.journal.specs.Store.{device_of}
use Rattle.terminal.proofs.Transferring.{exported_more, reads_then}
use Rattle.terminal.proofs.exporting.print_blocks.Goals as goal

pub returns-in_err-print_block-clause-store : goal.returns-in_err-print_block-clause-store
returns-in_err-print_block-clause-store g c =
    reads_then c.args.store.now c.loop-block.store c.print_block.new.store _ 2 _ (g.met.D.SectorDevice.widens (device_of c.print_block.new.store))
    c.loop-block.invariant.store c.print_block.ensures.store (omega (arith, c.loop-block-test.true, c.loop-block.auto.block))

pub loop-block-preserved : goal.loop-block-preserved
loop-block-preserved g c =
    let inv = c.loop-block.invariant in
    record {
      printed = λ m stands. exported_more c.args.form m c.args.first c.loop-block.block _ _ _ (omega (arith, c.loop-block.auto.block))
          (inv.printed m stands) (c.in_ok-print_block.ensures.ok m (inv.store.state m stands));
      well = c.in_ok-print_block.ensures.well ∙ inv.well;
      store = reads_then c.args.store.now c.loop-block.store c.print_block.new.store _ 2 _ (g.met.D.SectorDevice.widens (device_of c.print_block.new.store))
          inv.store c.print_block.ensures.store (omega (arith, c.loop-block.auto.block));
    }
