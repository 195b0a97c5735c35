-- Which devices suit a store.
use Rattle.std.specs.Prelude.{if◌then◌else◌, Bool}
use Rattle.sector_disk.specs.declared.device.SectorDevice.{Ghosts}
use Rattle.journal.specs.Sizes.{is_size}

-- A device suits the store that its size tells: of the size of an image of layout 2 it keeps the disk model by sectors, of any
-- other size it keeps the disk model.
unfoldable pub suits : {D : Type 0} → Ghosts D → D → Bool
suits G d = if is_size (G.sector_count d) then G.keeps_sectors d else G.keeps_model d
