use Rattle.std.proofs.Common.{◌≡◌, ◌++◌, length, map}
use Rattle.sessions.specs.Cut.{blank_for_tab}
use Rattle.terminal.proofs.findings.add_text.Given as goal

abbrev pub invariant-loop-rest : goal.invariant-loop-rest
invariant-loop-rest l = l.bytes.items ++ map blank_for_tab l.rest ≡ l.initial.bytes.items ++ map blank_for_tab l.text

abbrev pub decreases-loop-rest : goal.decreases-loop-rest
decreases-loop-rest l = length l.rest
