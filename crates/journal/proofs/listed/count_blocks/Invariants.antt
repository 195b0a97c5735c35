use Rattle.std.proofs.Common.{◌≡◌, ◌≤◌, ◌<◌, ◌-◌, true}
use Rattle.journal.specs.Layout.{listed, count_listed}
use Rattle.journal.proofs.listed.count_blocks.Given as goal

abbrev pub invariant-loop-b : goal.invariant-loop-b
invariant-loop-b l = record {
  within : l.b ≤ l.blocks.number;
  here : l.b < l.blocks.number → listed l.bytes l.b ≡ true;
  count : l.count ≡ count_listed l.bytes l.b;
  small : l.count ≤ l.b;
}

abbrev pub decreases-loop-b : goal.decreases-loop-b
decreases-loop-b l = l.blocks.number - l.b
