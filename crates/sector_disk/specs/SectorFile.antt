-- A file as a device.
use Rattle.std.specs.Prelude.{ℕ, Bool}
use Rattle.sector_disk.specs.declared.host_file.HostFile.{Ghosts}
use Rattle.sector_disk.specs.declared.sector_file.SectorFile.{SectorFile}

-- how many sectors it has
abbrev pub sectors_of : {H : Type 0} {G : Ghosts H} → SectorFile H G → ℕ
sectors_of f = f.sectors

-- whether a sync of it has failed, or it was made and not finished: each further sync fails
abbrev pub has_failed_sync : {H : Type 0} {G : Ghosts H} → SectorFile H G → Bool
has_failed_sync f = f.sync_failed

-- the file within
abbrev pub file_of : {H : Type 0} {G : Ghosts H} → SectorFile H G → H
file_of f = f.file
