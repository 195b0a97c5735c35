use Rattle.std.proofs.Common.{◌≡◌, ◌≤◌, ◌<◌, ◌-◌, ℕ, false}
use Rattle.journal.specs.Layout.{listed}
use Rattle.journal.proofs.listed.next_listed.Given as goal

abbrev pub invariant-loop-b : goal.invariant-loop-b
invariant-loop-b l = record {
  after : l.first ≤ l.b;
  few : l.b ≤ 3840;
  none : (a : ℕ) → l.first ≤ a → a < l.b → listed l.bytes a ≡ false;
}

abbrev pub decreases-loop-b : goal.decreases-loop-b
decreases-loop-b l = l.end - l.b
