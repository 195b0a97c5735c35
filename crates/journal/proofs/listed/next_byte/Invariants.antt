use Rattle.std.proofs.Common.{◌≡◌, ◌≤◌, ◌<◌, ◌-◌, ℕ}
use Rattle.std.specs.Prelude.{slice_index}
use Rattle.journal.proofs.listed.next_byte.Given as goal

abbrev pub invariant-loop-i : goal.invariant-loop-i
invariant-loop-i l = record {
  after : l.first ≤ l.i;
  within : l.i ≤ 480;
  zeros : (k : ℕ) → l.first ≤ k → k < l.i → slice_index l.bytes k ≡ 0;
}

abbrev pub decreases-loop-i : goal.decreases-loop-i
decreases-loop-i l = 480 - l.i
