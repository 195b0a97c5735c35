use Rattle.std.proofs.Common.{◌≡◌, replicate}
use Rattle.sector_disk.specs.Memory.{zeros}
use Rattle.sector_disk.proofs.memory_disk.sectors_of_zeros.Given as goal

abbrev pub invariant-loop : goal.invariant-loop
invariant-loop l = l.made.items ≡ replicate l.counter zeros
