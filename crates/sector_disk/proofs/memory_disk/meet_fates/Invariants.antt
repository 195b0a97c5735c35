use Rattle.std.proofs.Common.{◌≡◌, ℕ, ◌<◌, ◌≤◌}
use Rattle.sector_disk.specs.Memory.{sector_at, stopped_sector, disk_of}
use Rattle.sector_disk.specs.Stop.{unsynced_below}
use Rattle.sector_disk.proofs.memory_disk.meet_fates.Given as goal

abbrev pub invariant-loop-sector : goal.invariant-loop-sector
invariant-loop-sector l = record {
  met : l.met ≡ unsynced_below (disk_of l.initial.sectors) l.sector-index;
  few : l.met ≤ l.sector-index;
  done : (k : ℕ) → k < l.sector-index → sector_at l.sectors k ≡ stopped_sector (disk_of l.initial.sectors) l.fates k;
  rest : (k : ℕ) → l.sector-index ≤ k → sector_at l.sectors k ≡ sector_at l.initial.sectors k;
}
