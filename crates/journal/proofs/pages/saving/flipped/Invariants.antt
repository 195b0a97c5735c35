use Rattle.std.proofs.Common.{◌≡◌, ℕ, ◌<◌, ◌≤◌, false, cond}
use Rattle.std.specs.Prelude.{not}
use Rattle.journal.specs.Layout.{listed}
use Rattle.journal.proofs.pages.saving.flipped.Given as goal

abbrev pub invariant-loop-b : goal.invariant-loop-b
invariant-loop-b l = record {
  each : (a : ℕ) → a < l.b → listed l.bits a ≡ cond (listed l.pending a) (not (listed l.listing a)) (listed l.listing a);
  rest : (a : ℕ) → l.b ≤ a → listed l.bits a ≡ false;
}
