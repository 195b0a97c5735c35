-- What the library's calls do to a device.
use Rattle.std.specs.Prelude.{◌≡◌, ◌⊎◌, ℕ, false, IsTrue, List, Result, Ok, Err}
use Rattle.sector_disk.specs.Disk.{Image, MayLeave}
use Rattle.sector_disk.specs.declared.device.SectorDevice.{Ghosts}
use Rattle.journal.specs.declared.store.Store.{Store}
use Rattle.journal.specs.Calls.{StopsLeave}
use Rattle.journal.specs.Images as older_images
use Rattle.journal.specs.PageImages as newer_images
use Rattle.journal.specs.Maps.{fresh}
use Rattle.journal.specs.Store.{StandsFor, blocks_of, closed_of, device_of, is_pending}
use Rattle.shadow.specs.Upgraded.{known_blocks}
use Rattle.journal.specs.BySize.{Means}
use Rattle.stores.specs.Images.{meaning}
use Rattle.stores.specs.Opened.{OpeningLeaves}
use Rattle.journal.specs.Suits.{suits}
use Rattle.sessions.specs.Devices.{Becomes}
use Rattle.hosted.specs.declared.refusal.Refusal.{Refusal}
use Rattle.hosted.specs.Saving.{with_blocks}

-- the device after a call, which a refusal hands back
abbrev pub device_after : {D : Type 0} → Result D (Refusal × D) → D
device_after (Ok device) = device
device_after (Err refused) = refused.1

module _ {D : Type 0} (G : Ghosts D) where
  -- how many blocks an image on the device has
  abbrev pub blocks_on : D → ℕ
  blocks_on device = known_blocks (G.sector_count device)

  -- the blocks that the image on the device means
  abbrev pub meant_by : D → List (List ℕ)
  meant_by device = meaning (G.sector_count device) (G.disk device).content

  -- The image means these blocks, by the layout that the device's size tells.
  abbrev pub MeansOn : D → List (List ℕ) → Image → Type 0
  MeansOn device blocks image = Means (G.sector_count device) blocks image

  -- A stop now leaves these blocks.
  abbrev pub LeavesBlocks : D → List (List ℕ) → Type 0
  LeavesBlocks device blocks = (image : Image) → MayLeave (G.disk device) image → MeansOn device blocks image

  -- A stop now leaves these blocks, by layout 2.
  abbrev pub LeavesOlder : D → List (List ℕ) → Type 0
  LeavesOlder device blocks = (image : Image) → MayLeave (G.disk device) image → older_images.Means blocks image

  -- The same by layout 3.
  abbrev pub LeavesNewer : D → List (List ℕ) → Type 0
  LeavesNewer device blocks = (image : Image) → MayLeave (G.disk device) image → newer_images.Means blocks image

  -- A stop of an opening of the device may leave the image: by layout 2 it follows one that a stop may leave now, and by layout 3 it
  -- is one.
  abbrev pub MayRecover : D → Image → Type 0
  MayRecover device image = OpeningLeaves (G.sector_count device) (G.disk device) image

  -- The image is as a recovery may leave it, or means the blocks that the image on the device means.
  abbrev pub KeepsBlocks : D → Image → Type 0
  KeepsBlocks device image = MayRecover device image ⊎ MeansOn device (meant_by device) image

  -- It keeps them, or means them with those put over them that are saved.
  abbrev pub AllOrNone : D → (blocks bytes : List ℕ) → Image → Type 0
  AllOrNone device blocks bytes image =
      KeepsBlocks device image ⊎ MeansOn device (with_blocks (meant_by device) blocks bytes) image

  -- The store was opened on the device: it has the blocks that the image there meant, nothing is pending, it isn't closed, and no call failed.
  pub record OpensOn (device : D) (store : Store D G) : Type 0 where
    pub size : blocks_of store ≡ blocks_on device
    pub sectors : G.sector_count (device_of store) ≡ G.sector_count device
    pub stands : IsTrue (suits G device) → StandsFor store (fresh (meant_by device))
    pub pending : (b : ℕ) → is_pending store b ≡ false
    pub closed : closed_of store ≡ false
    pub well : G.failures (device_of store) ≡ G.failures device
    pub goes : Becomes G device (device_of store)
    pub stops : IsTrue (suits G device) → StopsLeave G device (device_of store) (MayRecover device)
