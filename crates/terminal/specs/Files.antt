-- Devices over files that a system opened or made under a name, and stores that were opened over a device.
use Rattle.std.specs.Prelude.{◌≡◌, ℕ, false, IsTrue}
use Rattle.sector_disk.specs.declared.device.SectorDevice as device
use Rattle.journal.specs.declared.store.Store.{Store}
use Rattle.journal.specs.Store.{StandsFor, blocks_of, closed_of, device_of, pending_count}
use Rattle.journal.specs.Suits.{suits}
use Rattle.stores.specs.Images.{HasMeaning}
use Rattle.sector_disk.specs.Opening.{AreZeros, KeepsGoing, WentOn, sectors_in}
use Rattle.sector_disk.specs.SectorFile.{file_of, sectors_of}
use Rattle.sector_disk.specs.declared.sector_file.SectorFile.{SectorFile}
use Rattle.sector_disk.specs.declared.host_file.HostFile.{Ghosts}
use Rattle.terminal.specs.Done.{Recovers, blocks_on, maps_on}

module _ {H : Type 0} (G : Ghosts H) where
  -- The device is a file as it was opened, with the sectors that it has. No call of it was counted yet, and none has failed.
  pub record IsOpened (opens : H → Type 0) (device : SectorFile H G) : Type 0 where
    pub file : opens (file_of device)
    pub sectors : IsTrue (G.keeps_model (file_of device)) → sectors_of device ≡ sectors_in (G.extent (file_of device))
    pub counts : device.counts ≡ record { reads = 0; writes = 0; syncs = 0 }
    pub failures : device.failures ≡ 0

  -- The device is a file that was made and then filled with so many sectors of zeros, all of them synced. No call of the device was
  -- counted yet, and none has failed.
  pub record IsMade (makes : H → Type 0) (sectors : ℕ) (device : SectorFile H G) : Type 0 where
    pub file : H
    pub made : makes file
    pub goes : KeepsGoing G file (file_of device)
    pub sectors_are : sectors_of device ≡ sectors
    pub zeros : IsTrue (G.keeps_model (file_of device)) → AreZeros sectors (G.bytes (file_of device))
    pub counts : device.counts ≡ record { reads = 0; writes = 0; syncs = 0 }
    pub failures : device.failures ≡ 0

  -- The device is a file that was made and not finished. It has no sectors, no call of it was counted yet, and none has failed.
  pub record IsUnfinished (makes : H → Type 0) (device : SectorFile H G) : Type 0 where
    pub file : H
    pub made : makes file
    pub goes : WentOn G file (file_of device)
    pub empty : sectors_of device ≡ 0
    pub counts : device.counts ≡ record { reads = 0; writes = 0; syncs = 0 }
    pub failures : device.failures ≡ 0

-- The store was opened on the device, and no call of it failed: the image there means some blocks, the store has these, nothing is
-- pending, and it isn't closed.
pub record OpensAs {D : Type 0} (G : device.Ghosts D) (opened : D) (store : Store D G) : Type 0 where
  pub recovers : Recovers G opened (device_of store)
  pub well : G.failures (device_of store) ≡ G.failures opened
  pub meant : IsTrue (suits G opened) → HasMeaning (G.sector_count opened) (G.disk opened).content
  pub size : blocks_of store ≡ blocks_on G opened
  pub stands : IsTrue (suits G opened) → StandsFor store (maps_on G opened)
  pub pending : pending_count store ≡ 0
  pub closed : closed_of store ≡ false
