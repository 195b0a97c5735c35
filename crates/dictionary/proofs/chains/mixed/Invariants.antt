use Rattle.std.proofs.Common.{◌≡◌, length}
use Rattle.dictionary.specs.Chains.{mixed, mixed_from}
use Rattle.dictionary.proofs.chains.mixed.Given as goal

abbrev pub invariant-loop-rest : goal.invariant-loop-rest
invariant-loop-rest l = mixed_from l.mix l.rest ≡ mixed l.name

abbrev pub decreases-loop-rest : goal.decreases-loop-rest
decreases-loop-rest l = length l.rest
