use Rattle.std.proofs.Common.{◌≡◌, ◌≤◌, ◌+◌, ◌-◌}
use Rattle.data_space.specs.Space.{moved_up}
use Rattle.data_space.proofs.moves.copy_up.Given as goal

-- what is still to be moved leads to what all leads to
abbrev pub invariant-loop-done : goal.invariant-loop-done
invariant-loop-done l = record {
  within : l.done ≤ l.n;
  rest : moved_up l.bytes (l.from + l.done) (l.to + l.done) (l.n - l.done) ≡ moved_up l.initial.bytes l.from l.to l.n;
}

abbrev pub decreases-loop-done : goal.decreases-loop-done
decreases-loop-done l = l.n - l.done
