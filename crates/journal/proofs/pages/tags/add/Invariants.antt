use Rattle.std.proofs.Common.{◌≡◌, ℕ, ◌<◌, ◌≤◌, length}
use Rattle.std.specs.Prelude.{bit_xor, slice_index}
use Rattle.journal.proofs.pages.tags.add.Given as goal

abbrev pub invariant-loop-i : goal.invariant-loop-i
invariant-loop-i l = record {
  long : length l.sum ≡ length l.initial.sum;
  done : (j : ℕ) → j < l.i → slice_index l.sum j ≡ bit_xor (slice_index l.initial.sum j) (slice_index l.tag j);
  rest : (j : ℕ) → l.i ≤ j → slice_index l.sum j ≡ slice_index l.initial.sum j;
}
