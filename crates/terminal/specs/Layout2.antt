-- What an image of layout 2 on a device means, and what a stop leaves of one.
use Rattle.std.specs.Prelude.{ℕ, List}
use Rattle.sector_disk.specs.Disk.{Image, MayLeave}
use Rattle.sector_disk.specs.declared.device.SectorDevice.{Ghosts}
use Rattle.journal.specs.Images.{Means, meaning}
use Rattle.journal.specs.Maps.{Maps, fresh}
use Rattle.recovery.specs.Label.{blocks_in}

module _ {D : Type 0} (G : Ghosts D) where
  -- A stop now leaves these blocks.
  abbrev pub LeavesBlocks : D → List (List ℕ) → Type 0
  LeavesBlocks device blocks = (image : Image) → MayLeave (G.disk device) image → Means blocks image

  -- how many blocks an image on the device has
  abbrev pub blocks_on : D → ℕ
  blocks_on device = blocks_in (G.sector_count device)

  -- the blocks that the image on the device means
  abbrev pub meant_by : D → List (List ℕ)
  meant_by device = meaning (blocks_on device) (G.disk device).content

  -- A store that is opened on the device has these maps.
  abbrev pub maps_on : D → Maps
  maps_on device = fresh (meant_by device)
