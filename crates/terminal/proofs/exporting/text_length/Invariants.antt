use Rattle.std.proofs.Common.{◌≡◌, ◌≤◌, length, take}
use Rattle.data_space.specs.Blanks.{trimmed}
use Rattle.terminal.proofs.exporting.text_length.Given as goal

abbrev pub invariant-loop-count : goal.invariant-loop-count
invariant-loop-count l = record {
  within : l.count ≤ length l.line;
  same : trimmed (take l.count l.line) ≡ trimmed l.line;
}

abbrev pub decreases-loop-count : goal.decreases-loop-count
decreases-loop-count l = l.count
