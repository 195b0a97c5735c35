use Rattle.std.proofs.Common.{◌≡◌, ◌≤◌, ◌+◌, ◌++◌, length, map}
use Rattle.arrayvec.specs.ArrayVec.{array_vec_len}
use Rattle.terminal.specs.Screen.{shown}
use Rattle.terminal.proofs.screen.add_shown.Given as goal

abbrev pub invariant-loop-rest : goal.invariant-loop-rest
invariant-loop-rest l = record {
  room : array_vec_len l.lines + length l.rest ≤ 1040;
  so_far : l.lines.items ++ map shown l.rest ≡ l.initial.lines.items ++ map shown l.bytes;
}

abbrev pub decreases-loop-rest : goal.decreases-loop-rest
decreases-loop-rest l = length l.rest
