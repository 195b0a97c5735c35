use Rattle.std.proofs.Common.{◌≡◌, ◌++◌, replicate}
use Rattle.terminal.proofs.findings.add_blanks.Given as goal

abbrev pub invariant-loop-left : goal.invariant-loop-left
invariant-loop-left l = l.bytes.items ++ replicate l.left 32 ≡ l.initial.bytes.items ++ replicate l.count 32

abbrev pub decreases-loop-left : goal.decreases-loop-left
decreases-loop-left l = l.left
