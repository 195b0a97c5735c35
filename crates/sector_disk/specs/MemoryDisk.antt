-- A disk in memory as a device.
use Rattle.std.specs.Prelude.{ℕ, length}
use Rattle.sector_disk.specs.Disk.{Disk}
use Rattle.sector_disk.specs.Memory.{disk_of}
use Rattle.sector_disk.specs.declared.device.Counts.{Counts}
use Rattle.sector_disk.specs.declared.memory_disk.MemoryDisk.{MemoryDisk}

-- what it holds
abbrev pub held : MemoryDisk → Disk
held d = disk_of d.sectors.items

-- how many sectors it has
abbrev pub size : MemoryDisk → ℕ
size d = length d.sectors.items

-- how many calls of it were begun
abbrev pub begun : MemoryDisk → Counts
begun d = d.counts
