-- A store, the maps that it stands for, and what its calls keep.
use Rattle.std.specs.Prelude.{◌≡◌, ◌⊎◌, ℕ, ◌<◌, ◌≤◌, ◌==◌, if◌then◌else◌, not, Bool, true, false, List, length, IsTrue, Option, Some, None}
use Rattle.sector_disk.specs.Counting.{count_up}
use Rattle.sector_disk.specs.Disk.{Disk, Image, MayLeave}
use Rattle.sector_disk.specs.Moments.{Elapses}
use Rattle.sector_disk.specs.declared.device.SectorDevice.{Ghosts}
use Rattle.journal.specs.BySize.{Means}
use Rattle.journal.specs.Calls.{StopsLeave, BeginsAtMost, ReadsAtMost}
use Rattle.journal.specs.Images.{pair_at, is_true_record, HasHomes}
use Rattle.journal.specs.Layout.{most_blocks, open_gate_bytes, listed, count_below}
use Rattle.journal.specs.Maps.{Maps, block_in, pending_in, latest}
use Rattle.journal.specs.PageImages.{record_of}
use Rattle.journal.specs.PageLayout.{gate_at, gate_bytes, sum_in, HasFlipped}
use Rattle.journal.specs.Sizes.{is_size}
use Rattle.journal.specs.Suits.{suits}
use Rattle.journal.specs.Technique.{saved_at, spilled_at, sectors_for}
use Rattle.journal.specs.declared.store.Store.{Store}
use Rattle.journal.specs.declared.technique.Technique.{Technique}

-- The homes hold these blocks.
abbrev pub HomesHold : List (List ℕ) → Image → Type 0
HomesHold blocks image = HasHomes (length blocks) (block_in blocks) image

-- whether the text that is kept is that of block b
abbrev pub is_text_of : (kept : Option ℕ) (b : ℕ) → Bool
is_text_of None b = false
is_text_of (Some kept) b = kept == b

module _ {D : Type 0} {G : Ghosts D} where
  abbrev pub device_of : Store D G → D
  device_of store = store.device

  abbrev pub disk_of : Store D G → Disk
  disk_of store = G.disk store.device

  abbrev pub blocks_of : Store D G → ℕ
  blocks_of store = store.blocks.number

  -- how its blocks are saved
  abbrev pub technique_of : Store D G → Technique
  technique_of store = store.technique

  -- how many sectors an image of its layout has with its blocks
  abbrev pub sectors_of : Store D G → ℕ
  sectors_of store = sectors_for store.technique (blocks_of store)

  abbrev pub closed_of : Store D G → Bool
  closed_of store = store.closed

  -- the bytes that were read last as a text
  abbrev pub text_of : Store D G → List ℕ
  text_of store = store.text

  -- the block whose text that is, as long as nothing was written since, and no block read but as a text
  abbrev pub kept_of : Store D G → Option ℕ
  kept_of store = store.kept

  -- whether a block was spilled since the last save
  abbrev pub is_pending : Store D G → ℕ → Bool
  is_pending store b = listed store.pending b

  -- whether its device has the size of an image of layout 2
  abbrev pub by_older : Store D G → Bool
  by_older store = is_size (G.sector_count store.device)

  -- how many blocks were spilled since the last save
  abbrev pub pending_count : Store D G → ℕ
  pending_count store = count_below (is_pending store) (blocks_of store)

  -- The same blocks are pending.
  abbrev pub SamePending : Store D G → Store D G → Type 0
  SamePending old new = (b : ℕ) → is_pending new b ≡ is_pending old b

  -- An image with the sectors of the store's device means these blocks.
  abbrev pub MeansBy : Store D G → List (List ℕ) → Image → Type 0
  MeansBy store blocks image = Means (G.sector_count (device_of store)) blocks image

  -- A store on a device that suits it stands for maps. While it is open the saved blocks and those that were spilled are where its
  -- technique has them, and a stop now leaves the saved blocks. A fault changes neither map, but no call reads the maps of a closed
  -- store again: it stands for any maps of its size.
  pub record StandsFor (store : Store D G) (m : Maps) : Type 0 where
    pub model : IsTrue (suits G store.device)
    pub closed : m.closed ≡ store.closed
    pub size : length m.saved ≡ blocks_of store
    pub pending_size : length m.pending ≡ blocks_of store
    pub saved : store.closed ≡ false → (b : ℕ) → b < blocks_of store
        → block_in m.saved b ≡ pair_at (disk_of store).content (saved_at store.technique (blocks_of store) b)
    pub pending : store.closed ≡ false → (b : ℕ) → b < blocks_of store → pending_in m.pending b
        ≡ (if is_pending store b then Some (pair_at (disk_of store).content (spilled_at store.technique b)) else None)
    pub left : store.closed ≡ false → (image : Image) → MayLeave (disk_of store) image → MeansBy store m.saved image

  -- what each call on a store keeps
  pub record Continues (old new : Store D G) : Type 0 where
    pub blocks : blocks_of new ≡ blocks_of old
    pub sectors : G.sector_count (device_of new) ≡ G.sector_count (device_of old)
    pub model : suits G (device_of new) ≡ suits G (device_of old)
    pub time : Elapses G.time G.left_since (device_of old) (device_of new)
    pub failures : G.failures (device_of old) ≤ G.failures (device_of new)

  -- One call of the device failed.
  abbrev pub DeviceFailed : Store D G → Store D G → Type 0
  DeviceFailed old new = G.failures (device_of new) ≡ count_up (G.failures (device_of old))

  -- No call of the device failed.
  abbrev pub DeviceWentWell : Store D G → Store D G → Type 0
  DeviceWentWell old new = G.failures (device_of new) ≡ G.failures (device_of old)

  -- So many writes and syncs of the device were begun at most.
  abbrev pub DeviceBegins : Store D G → Store D G → ℕ → ℕ → Type 0
  DeviceBegins old new writes syncs = BeginsAtMost G (device_of old) (device_of new) writes syncs

  -- So many reads of the device were begun at most.
  abbrev pub DeviceReads : Store D G → Store D G → ℕ → Type 0
  DeviceReads old new reads = ReadsAtMost G (device_of old) (device_of new) reads

  -- A stop of an open store at any moment since the old state leaves the saved blocks.
  abbrev pub KeepsSaved : Store D G → Store D G → Type 0
  KeepsSaved old new = (m : Maps) → StandsFor old m → m.closed ≡ false
      → StopsLeave G (device_of old) (device_of new) (MeansBy old m.saved)

  -- A stop of an open store at any moment since the old state leaves the saved blocks, or all that were spilled over them too.
  abbrev pub SavesAllOrNone : Store D G → Store D G → Type 0
  SavesAllOrNone old new = (m : Maps) → StandsFor old m → m.closed ≡ false
      → StopsLeave G (device_of old) (device_of new) (λ image. MeansBy old m.saved image ⊎ MeansBy old (latest m) image)

  -- What a stop of a closed store might have left since the old state could be left before.
  abbrev pub AddsNothing : Store D G → Store D G → Type 0
  AddsNothing old new = closed_of old ≡ true → StopsLeave G (device_of old) (device_of new) (MayLeave (disk_of old))

  -- Where a stop leaves homes that are neither the saved blocks nor all the new ones, the gate is open and spelled as it is to be.
  abbrev pub OpensGateWhole : Store D G → Store D G → Type 0
  OpensGateWhole old new = (m : Maps) → StandsFor old m → m.closed ≡ false → StopsLeave G (device_of old) (device_of new)
      (λ image. (image 1 ≡ open_gate_bytes) ⊎ HomesHold m.saved image ⊎ HomesHold (latest m) image)

  -- whether the device keeps the disk model, and does so by sectors, stays
  pub record KeepsModel (old new : Store D G) : Type 0 where
    pub model : G.keeps_model (device_of new) ≡ G.keeps_model (device_of old)
    pub units : G.keeps_sectors (device_of new) ≡ G.keeps_sectors (device_of old)

-- The commit record of an image of n blocks lists these and no other, and has the digest that belongs to it.
pub record HasRecordOf (n : ℕ) (pending : ℕ → Bool) (image : Image) : Type 0 where
  pub each : (b : ℕ) → b < n → listed (image 2) b ≡ pending b
  pub rest : (b : ℕ) → n ≤ b → b < most_blocks → listed (image 2) b ≡ false
  pub digest : is_true_record n (image 2) image ≡ true

-- The gate of an image is spelled whole, the other way than before and with the sum of the record that it names. This record lists
-- the other place of each block that was pending, the same one of each other block, and nothing past the last block.
pub record NamesLatest (n : ℕ) (is_open : Bool) (listing pending : List ℕ) (image : Image) : Type 0 where
  pub gate : image gate_at ≡ gate_bytes (not is_open) (sum_in (record_of image))
  pub flipped : HasFlipped n listing pending (record_of image)
