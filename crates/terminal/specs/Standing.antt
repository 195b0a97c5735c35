-- Blocks that are printed of an image of layout 3 from where they stand, whatever else of the image can be read.
use Rattle.std.specs.Prelude.{◌≡◌, ℕ, ◌+◌, ◌-◌, ◌*◌, ◌<◌, ◌≤◌, ◌&&◌, nat_le, nat_lt, Bool, true, false, IsTrue, List, Option}
use Rattle.std.specs.Io.KnownBytes.{Appends}
use Rattle.sector_disk.specs.Disk.{Image}
use Rattle.sector_disk.specs.declared.device.SectorDevice.{Ghosts}
use Rattle.journal.specs.Calls.{ReadsAtMost}
use Rattle.journal.specs.Maps.{contents}
use Rattle.recovery.specs.Steps.{OnlyRead}
use Rattle.shadow.specs.Label.{blocks_in, is_size}
use Rattle.image_care.specs.Standing.{stands_whole}
use Rattle.command_line.specs.declared.orders.Form.{Form}
use Rattle.terminal.specs.Done.{maps_on}
use Rattle.terminal.specs.Screen.{listing}
use Rattle.terminal.specs.Transfer.{exports}

-- whether an image on so many sectors is one of layout 3 that has the blocks from the first to the last
abbrev pub has_pages : (first last sectors : ℕ) → Bool
has_pages first last sectors = is_size sectors && (nat_le first last && nat_lt last (blocks_in sectors))

-- Each of the blocks from the first on up to another one, which is no more of them, stands whole where it counts; or one doesn't.
abbrev pub AllStand : (first past : ℕ) → Image → Type 0
AllStand first past image = (b : ℕ) → first ≤ b → b < past → stands_whole image b ≡ true

abbrev pub OneIsDamaged : (first past : ℕ) → Image → Type 0
OneIsDamaged first past image = (b : ℕ) × (first ≤ b) × (b < past) × (stands_whole image b ≡ false)

-- A call of the device failed at first, in what this leads to; and then was done what P says. Of an opening that failed the image printed
-- from is the one which it left, that is one which a stop could have left before, or one that follows such an image (`recovers`).
abbrev pub AfterFault : {D : Type 0} (failed P : D → D → Type 0) (device after : D) → Type 0
AfterFault {D} failed P device after = (looked : D) × failed device looked × P looked after

module _ {D : Type 0} (G : Ghosts D) where
  -- `list` of an image of layout 3 after that: the block, which is there and stands whole where it counts, was printed as the record names
  -- it, which is as the image means it where it has a meaning. At most five reads were begun for it, and no further call failed.
  pub record ShowsStanding (b : ℕ) (written written' : Option (List ℕ)) (device after : D) : Type 0 where
    pub only_read : OnlyRead G device after
    pub well : G.failures after ≡ G.failures device
    pub sized : is_size (G.sector_count device) ≡ true
    pub there : b < blocks_in (G.sector_count device)
    pub whole : IsTrue (G.keeps_model device) → stands_whole (G.disk device).content b ≡ true
    pub listed : IsTrue (G.keeps_model device) → Appends written written' (listing (contents (maps_on G device) b))
    pub reads : ReadsAtMost G device after 5

  -- `export` of such an image: the same of the blocks from the first to the last, in this form.
  pub record ExportsStanding (form : Form) (first last : ℕ) (written written' : Option (List ℕ)) (device after : D) : Type 0 where
    pub only_read : OnlyRead G device after
    pub well : G.failures after ≡ G.failures device
    pub sized : is_size (G.sector_count device) ≡ true
    pub ordered : first ≤ last
    pub there : last < blocks_in (G.sector_count device)
    pub whole : IsTrue (G.keeps_model device) → AllStand first (last + 1) (G.disk device).content
    pub printed : IsTrue (G.keeps_model device) → Appends written written' (exports form (maps_on G device) first (last + 1 - first))
    pub reads : ReadsAtMost G device after (5 * (last + 1 - first))
