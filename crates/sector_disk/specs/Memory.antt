-- What a disk in memory holds.
use Rattle.std.specs.Prelude.{ℕ, List, [], replicate, slice_index_or, Some, None, unwrap_or, is_some}
use Rattle.sector_disk.specs.Disk.{Disk}
use Rattle.sector_disk.specs.Stop.{stopped}
use Rattle.sector_disk.specs.declared.memory_disk.Sector.{Sector}
use Rattle.sector_disk.specs.declared.memory_disk.Fate.{Fate}

-- past the end
abbrev pub blank : Sector
blank = record { synced = []; unsynced = None }

abbrev pub zeros : Sector
zeros = record { synced = replicate 512 0; unsynced = None }

abbrev pub sector_at : List Sector → ℕ → Sector
sector_at sectors k = slice_index_or sectors k blank

abbrev pub present_bytes : Sector → List ℕ
present_bytes sector = unwrap_or sector.unsynced sector.synced

abbrev pub disk_of : List Sector → Disk
disk_of sectors = record {
  content = λ k. present_bytes (sector_at sectors k);
  synced = λ k. (sector_at sectors k).synced;
  unsynced = λ k. is_some (sector_at sectors k).unsynced;
  unit = λ k. k;
}

-- a sector with the bytes that it holds, as if they had just been written
abbrev pub touched_sector : Sector → Sector
touched_sector sector = record { synced = sector.synced; unsynced = Some (present_bytes sector) }

abbrev pub settled_sector : Sector → Sector
settled_sector sector = record { synced = present_bytes sector; unsynced = None }

-- after a stop
abbrev pub stopped_sector : Disk → List Fate → ℕ → Sector
stopped_sector disk fates k = record { synced = stopped disk fates k; unsynced = None }
