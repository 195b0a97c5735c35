-- Proofs of the laws that a disk in memory meets as a device.
use Rattle.std.specs.Prelude.{◌≡◌, ℕ, false, List, Option, Some, None, unwrap_or, is_some, refl}
use Rattle.sector_disk.specs.Disk.{MayLeave}
use Rattle.sector_disk.specs.Memory.{sector_at}
use Rattle.sector_disk.specs.MemoryDisk.{held}
use Rattle.sector_disk.specs.declared.memory_disk.MemoryDisk.{MemoryDisk}

no_write : (unsynced : Option (List ℕ)) (synced : List ℕ) → is_some unsynced ≡ false → unwrap_or unsynced synced ≡ synced
no_write None synced none = refl
no_write (Some bytes) synced none = cc

-- what a read gives may be left
pub present_of : (d : MemoryDisk) → MayLeave (held d) (held d).content
present_of d k none = no_write (sector_at d.sectors.items k).unsynced (sector_at d.sectors.items k).synced none
