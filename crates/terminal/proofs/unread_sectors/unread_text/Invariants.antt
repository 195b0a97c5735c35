use Rattle.std.proofs.Common.{◌≡◌, ◌++◌, length, string_bytes}
use Rattle.terminal.specs.Through.{unread_told}
use Rattle.terminal.proofs.unread_sectors.unread_text.Given as goal

abbrev pub invariant-loop-rest : goal.invariant-loop-rest
invariant-loop-rest l = string_bytes l.text ++ unread_told l.sectors l.rest ≡ unread_told l.sectors l.unread

abbrev pub decreases-loop-rest : goal.decreases-loop-rest
decreases-loop-rest l = length l.rest
