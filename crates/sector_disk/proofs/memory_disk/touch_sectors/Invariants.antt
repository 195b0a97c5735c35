use Rattle.std.proofs.Common.{◌≡◌, ◌⊎◌, ℕ, ◌<◌, ◌≤◌, length}
use Rattle.sector_disk.specs.Memory.{sector_at, touched_sector}
use Rattle.sector_disk.proofs.memory_disk.touch_sectors.Given as goal

abbrev pub invariant-loop-k : goal.invariant-loop-k
invariant-loop-k l = record {
  long : length l.sectors ≡ length l.initial.sectors;
  done : (j : ℕ) → l.first ≤ j → j < l.k → sector_at l.sectors j ≡ touched_sector (sector_at l.initial.sectors j);
  rest : (j : ℕ) → (j < l.first) ⊎ (l.k ≤ j) → sector_at l.sectors j ≡ sector_at l.initial.sectors j;
}
