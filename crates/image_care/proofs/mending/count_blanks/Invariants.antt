use Rattle.std.proofs.Common.{◌≡◌, ◌≤◌}
use Rattle.image_care.specs.Mended.{blanks_under}
use Rattle.image_care.specs.Through.{image_of}
use Rattle.image_care.proofs.mending.count_blanks.Given as goal

abbrev pub invariant-loop-b : goal.invariant-loop-b
invariant-loop-b l = record { count : l.count ≡ blanks_under l.b l.listing (image_of l.bytes); small : l.count ≤ l.b }
