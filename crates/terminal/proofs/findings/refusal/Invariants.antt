use Rattle.std.proofs.Common.{◌≡◌, length}
use Rattle.terminal.specs.Findings.{refusal}
use Rattle.terminal.proofs.findings.refusal.Given as goal

abbrev pub invariant-loop-rest : goal.invariant-loop-rest
invariant-loop-rest l = refusal l.rest ≡ refusal l.found

abbrev pub decreases-loop-rest : goal.decreases-loop-rest
decreases-loop-rest l = length l.rest
