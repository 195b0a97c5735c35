-- Blocks that are printed of an image by reads alone, on any device.
use Rattle.std.specs.Prelude.{◌≡◌, ℕ, ◌+◌, ◌-◌, ◌*◌, ◌<◌, ◌≤◌, ◌&&◌, nat_le, nat_lt, false, if◌then◌else◌, IsTrue, List, Option, Some, None, option_map}
use Rattle.std.specs.Io.KnownBytes.{Appends}
use Rattle.sector_disk.specs.Disk.{Image, MayLeave}
use Rattle.sector_disk.specs.declared.device.SectorDevice.{Ghosts}
use Rattle.journal.specs.Calls.{BeginsAtMost, ReadsAtMost, StopsLeave}
use Rattle.journal.specs.Maps.{contents}
use Rattle.recovery.specs.Label.{is_size}
use Rattle.recovery.specs.Opened.{first_of}
use Rattle.shadow.specs.Label.{blocks_in}
use Rattle.shadow.specs.Upgraded.{known_blocks}
use Rattle.stores.specs.Images.{HasMeaning}
use Rattle.stores.specs.Opened.{image_refusal}
use Rattle.image_care.specs.Looked.{reads_to_look}
use Rattle.command_line.specs.declared.orders.Form.{Form}
use Rattle.terminal.specs.Done.{blocks_on, maps_on}
use Rattle.terminal.specs.Failures.{of_image}
use Rattle.terminal.specs.Screen.{listing}
use Rattle.terminal.specs.Transfer.{exports}
use Rattle.terminal.specs.declared.failure.Failure.{Failure}
use Rattle.terminal.specs.declared.failure.Failure.TheVariants.{NoBlock}
use Rattle.sessions.specs.Devices.{Becomes}

-- the refusal of a block of an image on so many sectors: as an opening refuses the image, and then where it has no such block
abbrev pub block_refusal : (b sectors : ℕ) → Image → Option Failure
block_refusal b sectors image =
    first_of (option_map of_image (image_refusal sectors image)) (if nat_lt b (known_blocks sectors) then None else Some NoBlock)

-- the same of the blocks from the first to the last: all of them are there, and the last doesn't come before the first
abbrev pub blocks_refusal : (first last sectors : ℕ) → Image → Option Failure
blocks_refusal first last sectors image = first_of (option_map of_image (image_refusal sectors image))
    (if nat_le first last && nat_lt last (known_blocks sectors) then None else Some NoBlock)

module _ {D : Type 0} (G : Ghosts D) where
  -- `list` of an image that may only be read, or is in use: the listing of a block that is there was printed, as an opening would recover it, by
  -- reads alone, of which none failed, and no more of them than it asks for: of layout 3 the size alone tells how many. Nothing was
  -- written or synced, so a stop at any moment leaves what one could leave before.
  pub record ShowsImage (b : ℕ) (written written' : Option (List ℕ)) (device after : D) : Type 0 where
    pub goes : Becomes G device after
    pub well : G.failures after ≡ G.failures device
    pub meant : IsTrue (G.keeps_model device) → HasMeaning (G.sector_count device) (G.disk device).content
    pub there : b < blocks_on G device
    pub listed : IsTrue (G.keeps_model device) → Appends written written' (listing (contents (maps_on G device) b))
    pub same : IsTrue (G.keeps_model device) → G.disk after ≡ G.disk device
    pub stops : IsTrue (G.keeps_model device) → StopsLeave G device after (MayLeave (G.disk device))
    pub begins : BeginsAtMost G device after 0 0
    pub reads : IsTrue (G.keeps_model device)
        → ReadsAtMost G device after (reads_to_look (G.sector_count device) (G.disk device).content + 2)
    pub few : is_size (G.sector_count device) ≡ false → ReadsAtMost G device after (3 * blocks_in (G.sector_count device) + 5)

  -- `export` of such an image: the blocks from the first to the last, which are there, were printed in this form, as an opening would
  -- recover them, by reads alone.
  pub record ShowsBlocks (form : Form) (first last : ℕ) (written written' : Option (List ℕ)) (device after : D) : Type 0 where
    pub goes : Becomes G device after
    pub well : G.failures after ≡ G.failures device
    pub meant : IsTrue (G.keeps_model device) → HasMeaning (G.sector_count device) (G.disk device).content
    pub ordered : first ≤ last
    pub there : last < blocks_on G device
    pub printed : IsTrue (G.keeps_model device) → Appends written written' (exports form (maps_on G device) first (last + 1 - first))
    pub same : IsTrue (G.keeps_model device) → G.disk after ≡ G.disk device
    pub stops : IsTrue (G.keeps_model device) → StopsLeave G device after (MayLeave (G.disk device))
    pub begins : BeginsAtMost G device after 0 0
    pub reads : IsTrue (G.keeps_model device) → ReadsAtMost G device after
        (reads_to_look (G.sector_count device) (G.disk device).content + 2 * (last + 1 - first))
    pub few : is_size (G.sector_count device) ≡ false
        → ReadsAtMost G device after (3 * blocks_in (G.sector_count device) + 3 + 2 * (last + 1 - first))
