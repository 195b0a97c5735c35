use Rattle.std.proofs.Common.{◌≡◌, ◌≤◌, ◌-◌, ◌++◌, ◌*◌, option_map}
use Rattle.arrayvec.specs.ArrayVec.{array_vec_len}
use Rattle.terminal.specs.Screen.{texts_of, rows, screen_of}
use Rattle.terminal.proofs.screen.screen_of.Given as goal

abbrev pub invariant-loop : goal.invariant-loop
invariant-loop l = record {
  filled : array_vec_len l.block ≡ 64 * l.counter;
  few : l.counter ≤ 16;
  so_far : option_map (λ below. l.block.items ++ below) (rows (16 - l.counter) (texts_of l.rest)) ≡ screen_of l.bytes;
}
