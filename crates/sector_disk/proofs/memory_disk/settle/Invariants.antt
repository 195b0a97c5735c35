use Rattle.std.proofs.Common.{◌≡◌, ℕ, ◌<◌, ◌≤◌}
use Rattle.sector_disk.specs.Memory.{sector_at, settled_sector}
use Rattle.sector_disk.proofs.memory_disk.settle.Given as goal

abbrev pub invariant-loop-sector : goal.invariant-loop-sector
invariant-loop-sector l = record {
  done : (k : ℕ) → k < l.sector-index → sector_at l.sectors k ≡ settled_sector (sector_at l.initial.sectors k);
  rest : (k : ℕ) → l.sector-index ≤ k → sector_at l.sectors k ≡ sector_at l.initial.sectors k;
}
