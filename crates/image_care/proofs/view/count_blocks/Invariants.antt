use Rattle.std.proofs.Common.{◌≡◌, ◌≤◌}
use Rattle.journal.specs.Layout.{count_listed}
use Rattle.image_care.proofs.view.count_blocks.Given as goal

abbrev pub invariant-loop-b : goal.invariant-loop-b
invariant-loop-b l = record { count : l.count ≡ count_listed l.bytes l.b; small : l.count ≤ l.b }
