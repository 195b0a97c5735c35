use Rattle.std.proofs.Common.{◌≡◌, ◌≤◌, length}
use Rattle.data_space.specs.Space.{moved_down}
use Rattle.data_space.proofs.moves.bytes_down.Given as goal

abbrev pub invariant-loop-rest : goal.invariant-loop-rest
invariant-loop-rest l = record {
  within : l.rest ≤ l.n;
  length : length l.bytes ≡ length l.initial.bytes;
  rest : moved_down l.bytes l.from l.to l.rest ≡ moved_down l.initial.bytes l.from l.to l.n;
}

abbrev pub decreases-loop-rest : goal.decreases-loop-rest
decreases-loop-rest l = l.rest
