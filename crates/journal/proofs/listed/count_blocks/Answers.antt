use Rattle.std.proofs.Common.{arith, sym}
use Rattle.journal.proofs.Walks.{count_first, count_next}
use Rattle.journal.proofs.listed.count_blocks.Goals as goal

pub loop-b-init : goal.loop-b-init
loop-b-init c =
    let next = c.next_listed-b.ensures in
    record {
      within = next.within;
      here = next.here;
      count = sym (count_first c.args.bytes.now c.args.blocks.number c.next_listed-b.result next);
      small = omega arith;
    }

pub loop-b-preserved : goal.loop-b-preserved
loop-b-preserved c =
    let inv = c.loop-b.invariant in
    let next = c.next_listed-b-in-loop-b.ensures in
    record {
      within = next.within;
      here = next.here;
      count = omega (arith, inv.count, count_next c.args.bytes.now c.loop-b.b c.args.blocks.number c.next_listed-b-in-loop-b.result (inv.here c.loop-b-test.true) next);
      small = omega (arith, inv.small, next.after);
    }
