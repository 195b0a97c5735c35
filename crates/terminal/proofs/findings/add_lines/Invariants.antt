use Rattle.std.proofs.Common.{◌≡◌, ◌≤◌, ◌+◌, ◌++◌, false, length}
use Rattle.terminal.specs.Findings.{all_rows, findings}
use Rattle.terminal.specs.Screen.{texts_of}
use Rattle.terminal.proofs.findings.add_lines.Given as goal

abbrev pub invariant-loop-rest : goal.invariant-loop-rest
invariant-loop-rest l = record {
  rows : l.bytes.items ++ all_rows (texts_of l.rest) ≡ l.initial.bytes.items ++ all_rows (texts_of l.file);
  told : l.found.items ++ findings l.number l.below_full (texts_of l.rest) ≡ l.initial.found.items ++ findings 1 false (texts_of l.file);
  fits : l.number + length l.rest ≤ length l.file + 1;
}

abbrev pub decreases-loop-rest : goal.decreases-loop-rest
decreases-loop-rest l = length l.rest
