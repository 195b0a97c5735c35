use Rattle.std.proofs.Common.{◌≡◌, ◌≤◌, ◌+◌, ◌-◌, ◌++◌, ◌*◌, length}
use Rattle.arrayvec.specs.ArrayVec.{array_vec_len}
use Rattle.terminal.specs.Transfer.{exported_text}
use Rattle.terminal.proofs.exporting.text_of.Given as goal

abbrev pub invariant-loop : goal.invariant-loop
invariant-loop l = record {
  filled : array_vec_len l.lines ≤ 65 * l.counter;
  few : l.counter ≤ 16;
  left : length l.rest + 64 * l.counter ≡ 1024;
  so_far : l.lines.items ++ exported_text (16 - l.counter) l.rest ≡ exported_text 16 l.block;
}
