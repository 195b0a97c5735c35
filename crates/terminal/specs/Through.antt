-- Sectors that can't be read: what is told of them, and what a salvage does that passes them over.
use Rattle.std.specs.Prelude.{◌≡◌, ◌≢◌, ◌⊎◌, ℕ, ◌+◌, ◌-◌, ◌*◌, ◌/◌, nat_lt, if◌then◌else◌, IsTrue, List, [], ◌∷◌, ◌++◌, Option, Some, None, codes}
use Rattle.std.specs.Fmt.{decimal}
use Rattle.std.specs.Io.KnownBytes.{Appends}
use Rattle.sector_disk.specs.Disk.{Image}
use Rattle.sector_disk.specs.declared.device.SectorDevice.{Ghosts}
use Rattle.journal.specs.Calls.{BeginsAtMost, ReadsAtMost, StopsLeave}
use Rattle.journal.specs.Suits.{suits}
use Rattle.recovery.specs.Label.{blocks_in, is_size}
use Rattle.recovery.specs.Steps.{WentWell}
use Rattle.image_care.specs.Made.{MakingLeaves, writes_to_make}
use Rattle.image_care.specs.Mended.{HasLostRecord, IsMendedBySize}
use Rattle.image_care.specs.Salvaged.{salvaged_blocks}
use Rattle.image_care.specs.Standing.{standing_of}
use Rattle.image_care.specs.Through.{ReadsThrough, image_of}
use Rattle.sessions.specs.Devices.{Becomes}
use Rattle.terminal.specs.Checked.{line}
use Rattle.terminal.specs.Copying.{Salvages, salvage_told}
use Rattle.terminal.specs.Done.{LeavesBlocks}

-- The block that sector k of an image of n blocks is of, by layout 2: its slot or its home lies there. Label, gate and record are of none.
abbrev pub older_owner : (n k : ℕ) → Option ℕ
older_owner n k = if nat_lt k 3 then None else (if nat_lt k (3 + 2 * n) then Some ((k - 3) / 2) else Some ((k - (3 + 2 * n)) / 2))

-- the same by layout 3: it is of the page of one of its two places. Label, gate and records, with their pages, are of none.
abbrev pub newer_owner : (k : ℕ) → Option ℕ
newer_owner k = if nat_lt k 32 then None else Some ((k - 32) / 16)

abbrev pub owner_of : (sectors k : ℕ) → Option ℕ
owner_of sectors k = if is_size sectors then older_owner (blocks_in sectors) k else newer_owner k

-- what is told of sector k, which can't be read: the block that it is of, if it is of one
abbrev pub unread_line : (owner : Option ℕ) → (k : ℕ) → List ℕ
unread_line None k = line (codes "sector " ++ decimal k) (codes "can't be read")
unread_line (Some b) k = line (codes "block " ++ decimal b) (codes "sector " ++ decimal k ++ codes " can't be read")

-- the same of each sector of an image on so many that can't be read
abbrev pub unread_told : (sectors : ℕ) → (unread : List ℕ) → List ℕ
unread_told sectors [] = []
unread_told sectors (k ∷ unread) = unread_line (owner_of sectors k) k ++ unread_told sectors unread

module _ {B : Type 0} (H : Ghosts B) where
  -- Of an image on so many sectors, which is held in memory, an image of what could be had was made on a device, and it was told as
  -- by a salvage, with more lines after that.
  pub record SalvagesHad (sectors : ℕ) (seen : Image) (more : List ℕ) (written written' : Option (List ℕ)) (device after : B) : Type 0 where
    pub goes : Becomes H device after
    pub stops : IsTrue (suits H device) → StopsLeave H device after
        (MakingLeaves (H.sector_count device) (salvaged_blocks (H.sector_count device) seen) (H.disk device))
    pub new : IsTrue (suits H device) → LeavesBlocks H after (salvaged_blocks (H.sector_count device) seen)
    pub told : Appends written written' (salvage_told sectors (standing_of seen) ++ more)
    pub begins : BeginsAtMost H device after (writes_to_make (H.sector_count device)) 4
    pub looks : ReadsAtMost H device after 1

  -- The same of what was had of an image, under the best record for it.
  abbrev pub SalvagesMended : (sectors : ℕ) (had : Image) (more : List ℕ) (written written' : Option (List ℕ)) (device after : B) → Type 0
  SalvagesMended sectors had more written written' device after =
      (seen : Image) × IsMendedBySize sectors had seen × SalvagesHad sectors seen more written written' device after

module _ {A B : Type 0} (G : Ghosts A) (H : Ghosts B) where
  -- An image on so many sectors was read through, and salvaged: from its device, where each sector could be read and no record is lost;
  -- else from what was had, where blanks stand for each sector that couldn't be read, under the best record for that; and those sectors
  -- are told.
  abbrev pub SalvagesRead : (sectors : ℕ) (had unread : List ℕ) (written written' : Option (List ℕ)) (through source' : A) (device after : B) → Type 0
  SalvagesRead sectors had unread written written' through source' device after =
      ((unread ≡ []) × (¬ HasLostRecord sectors (image_of had)) × Salvages G H written written' through source' device after)
      ⊎ (((unread ≢ []) ⊎ HasLostRecord sectors (image_of had)) × (source' ≡ through) × SalvagesMended H sectors (image_of had) (unread_told sectors unread) written written' device after)

  -- `salvage`: no call of the new device failed, and of the old one just the reads of the sectors that couldn't be read.
  pub record SalvagesThrough (written written' : Option (List ℕ)) (source source' : A) (device after : B) : Type 0 where
    pub through : A
    pub had : List ℕ
    pub unread : List ℕ
    pub read : ReadsThrough G had unread source through
    pub well : WentWell G H through source' device after
    pub salvaged : SalvagesRead (G.sector_count source) had unread written written' through source' device after

-- `check`: a read of the image failed. So it was read through, and each sector that can't be read was told.
pub record TellsUnread {D : Type 0} (G : Ghosts D) (written written' : Option (List ℕ)) (device after : D) : Type 0 where
  pub had : List ℕ
  pub unread : List ℕ
  pub read : ReadsThrough G had unread device after
  pub told : Appends written written' (unread_told (G.sector_count device) unread)
