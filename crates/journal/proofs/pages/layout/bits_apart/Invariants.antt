use Rattle.std.proofs.Common.{◌≡◌, ◌≤◌}
use Rattle.journal.specs.Layout.{count_below}
use Rattle.journal.specs.PageLayout.{bit_differs}
use Rattle.journal.proofs.pages.layout.bits_apart.Given as goal

abbrev pub invariant-loop-i : goal.invariant-loop-i
invariant-loop-i l = record {
  counted : l.apart ≡ count_below (bit_differs l.gate l.word) l.i;
  few : l.apart ≤ l.i;
}
