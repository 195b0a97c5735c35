use Rattle.std.proofs.Common.{◌<◌, ℕ, List}
use Rattle.cell_machine.specs.Layout.{IsIn}
use Rattle.compiler.specs.Represents.{Chain, Patched}
use Rattle.compiler.proofs.leaves.patch_leaves.Given as goal

abbrev pub invariant-loop-at : goal.invariant-loop-at
invariant-loop-at l = record {
  left : (ws : List ℕ) × (Chain l.code ws l.at × ((y : ℕ) → IsIn y ws → y < 32768));
  goes : (ls ws final : List ℕ) → Chain l.fn.code ls l.fn.last → Chain l.code ws l.at → Patched l.code ws l.fn.to final → Patched l.fn.code ls l.fn.to final;
}

abbrev pub decreases-loop-at : goal.decreases-loop-at
decreases-loop-at l = l.at
