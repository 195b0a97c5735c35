use Rattle.std.proofs.Common.{◌≡◌, ◌≤◌, ◌+◌, ◌++◌, length, map}
use Rattle.arrayvec.specs.ArrayVec.{array_vec_len}
use Rattle.sessions.specs.Cut.{blank_for_tab}
use Rattle.terminal.proofs.screen.add_text.Given as goal

abbrev pub invariant-loop-rest : goal.invariant-loop-rest
invariant-loop-rest l = record {
  room : array_vec_len l.block + length l.rest ≤ 1024;
  so_far : l.block.items ++ map blank_for_tab l.rest ≡ l.initial.block.items ++ map blank_for_tab l.text;
}

abbrev pub decreases-loop-rest : goal.decreases-loop-rest
decreases-loop-rest l = length l.rest
