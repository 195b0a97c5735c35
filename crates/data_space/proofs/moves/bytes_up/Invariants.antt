use Rattle.std.proofs.Common.{◌≡◌, ◌≤◌, ◌+◌, ◌-◌, length}
use Rattle.data_space.specs.Space.{moved_up}
use Rattle.data_space.proofs.moves.bytes_up.Given as goal

abbrev pub invariant-loop-i : goal.invariant-loop-i
invariant-loop-i l = record {
  within : l.i ≤ l.n;
  length : length l.bytes ≡ length l.initial.bytes;
  rest : moved_up l.bytes (l.from + l.i) (l.to + l.i) (l.n - l.i) ≡ moved_up l.initial.bytes l.from l.to l.n;
}

abbrev pub decreases-loop-i : goal.decreases-loop-i
decreases-loop-i l = l.n - l.i
