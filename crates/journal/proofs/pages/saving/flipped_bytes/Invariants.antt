use Rattle.std.proofs.Common.{◌≡◌, ℕ, ◌<◌, ◌≤◌, ◌*◌, false, cond, length}
use Rattle.std.specs.Prelude.{not}
use Rattle.journal.specs.Layout.{listed}
use Rattle.journal.proofs.pages.saving.flipped_bytes.Given as goal

abbrev pub invariant-loop-i : goal.invariant-loop-i
invariant-loop-i l = record {
  long : length l.bits ≡ 512;
  each : (b : ℕ) → b < 8 * l.i → listed l.bits b ≡ cond (listed l.pending b) (not (listed l.listing b)) (listed l.listing b);
  rest : (b : ℕ) → 8 * l.i ≤ b → listed l.bits b ≡ false;
}
