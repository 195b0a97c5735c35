-- What is had of an image whose sectors are read one after another, where some of them can't be read.
use Rattle.std.specs.Prelude.{◌≡◌, ◌⊎◌, ℕ, zero, suc, Bool, IsTrue, List, [], ◌∷◌, ◌++◌, length, replicate, slice_index}
use Rattle.sector_disk.specs.Counting.{count_up_by}
use Rattle.sector_disk.specs.Disk.{Image}
use Rattle.sector_disk.specs.FileBytes.{sector_of}
use Rattle.sector_disk.specs.declared.device.SectorDevice.{Ghosts}
use Rattle.journal.specs.Calls.{ReadsAtMost}
use Rattle.recovery.specs.Steps.{OnlyRead}

-- what stands for a sector that can't be read: blanks
abbrev pub blank_sector : List ℕ
blank_sector = replicate 512 32

-- Sector k was read after those before it. Its 512 bytes were had, which are these where the device keeps the model; or it couldn't be
-- read: then blanks stand for it, and it is listed.
abbrev pub IsNext : (keeps : Bool) (bytes : List ℕ) (k : ℕ) (had unread had' unread' : List ℕ) → Type 0
IsNext keeps bytes k had unread had' unread' =
    ((sector : List ℕ) × (length sector ≡ 512) × (IsTrue keeps → sector ≡ bytes) × (had' ≡ had ++ sector) × (unread' ≡ unread))
    ⊎ ((had' ≡ had ++ blank_sector) × (unread' ≡ unread ++ k ∷ []))

-- The first k sectors of an image were read so: these bytes were had of them, and these sectors couldn't be read, in rising order.
abbrev pub WereHad : (keeps : Bool) → Image → ℕ → (had unread : List ℕ) → Type 0
WereHad keeps image zero had unread = (had ≡ []) × (unread ≡ [])
WereHad keeps image (suc k) had unread =
    (before : List ℕ) × (others : List ℕ) × IsNext keeps (image k) k before others had unread × WereHad keeps image k before others

-- these bytes as an image
abbrev pub image_of : List ℕ → Image
image_of bytes = sector_of (λ p. slice_index bytes p)

-- The image on a device was read through, each sector once: nothing was written or synced, and a stop at any moment leaves what one
-- could leave before. The reads of the sectors that are listed failed, one for each, and no other.
pub record ReadsThrough {D : Type 0} (G : Ghosts D) (had unread : List ℕ) (device after : D) : Type 0 where
  pub reads : OnlyRead G device after
  pub once : ReadsAtMost G device after (G.sector_count device)
  pub failed : G.failures after ≡ count_up_by (length unread) (G.failures device)
  pub were_had : WereHad (G.keeps_model device) (G.disk device).content (G.sector_count device) had unread
