-- A system of files in memory.
use Rattle.std.specs.Prelude.{◌≡◌, IsTrue}
use Rattle.sector_disk.specs.declared.host_file.HostFile.{Ghosts}
use Rattle.test_devices.specs.declared.memory_file.MemoryFile.{MemoryFile}
use Rattle.test_devices.specs.declared.memory_files.MemoryFiles.{MemoryFiles}

-- the file that each name gives
abbrev pub file_in : MemoryFiles → MemoryFile
file_in files = files.file

module _ {H : Type 0} (G : Ghosts H) where
  -- It holds the bytes of that file, as many as it has, and no sync of it has failed.
  pub record IsReopened (file opened : H) : Type 0 where
    pub bytes : G.bytes opened ≡ G.bytes file
    pub extent : G.extent opened ≡ G.extent file
    pub settles : IsTrue (G.syncs_settle opened)
