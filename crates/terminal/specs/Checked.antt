-- What is told of an image that is checked, on any device.
use Rattle.std.specs.Prelude.{◌≡◌, ℕ, ◌+◌, ◌*◌, Bool, false, if◌then◌else◌, IsTrue, List, [], ◌∷◌, ◌++◌, Option, Some, None, codes}
use Rattle.std.specs.Fmt.{decimal}
use Rattle.std.specs.Io.KnownBytes.{Appends}
use Rattle.std.specs.List.{concat}
use Rattle.hex.specs.Hex.{encode_lower}
use Rattle.sha2.specs.Sha256.{sha256}
use Rattle.sector_disk.specs.Disk.{Image, MayLeave}
use Rattle.sector_disk.specs.declared.device.SectorDevice.{Ghosts}
use Rattle.journal.specs.Calls.{BeginsAtMost, ReadsAtMost, StopsLeave}
use Rattle.recovery.specs.Label.{is_size}
use Rattle.shadow.specs.Label.{blocks_in}
use Rattle.shadow.specs.Upgraded.{known_blocks}
use Rattle.stores.specs.Images.{HasMeaning, meaning}
use Rattle.image_care.specs.Looked.{gate_fits_in, reads_of_gate, reads_to_look, save_in}
use Rattle.command_line.specs.declared.orders.Layout.{Layout}
use Rattle.command_line.specs.declared.orders.Layout.TheVariants.{Two, Three}
use Rattle.sessions.specs.Devices.{Becomes}

-- whether a save is under way, and of how many blocks: its digest is true, or the image would be refused
abbrev pub save_text : Option ℕ → List ℕ
save_text None = codes "none"
save_text (Some n) = decimal n ++ codes " blocks, digest true"

-- the number of a layout, as labels have it
abbrev pub version_of : Layout → ℕ
version_of Two = 2
version_of Three = 3

-- a line: what it is about, and what is told of that
abbrev pub line : (about value : List ℕ) → List ℕ
line about value = about ++ codes ": " ++ value ++ 10 ∷ []

-- a line where the gate isn't of the record that it names
abbrev pub gate_line : (gate_fits : Bool) → List ℕ
gate_line gate_fits = if gate_fits then [] else line (codes "gate") (codes "not of its record, a save may be lost")

-- five lines, about the bytes of the file, the layout, the blocks, the save that is under way, and the digest of all blocks; before the last
-- one of the gate, where there is something to tell
abbrev pub report : (bytes : ℕ) → Layout → (blocks : ℕ) → (under_way : Option ℕ) → (gate_fits : Bool) → (digest : List ℕ) → List ℕ
report bytes layout blocks under_way gate_fits digest =
    line (codes "bytes") (decimal bytes) ++ line (codes "layout") (decimal (version_of layout)) ++ line (codes "blocks") (decimal blocks)
    ++ line (codes "save under way") (save_text under_way) ++ gate_line gate_fits ++ line (codes "sha256") (encode_lower digest)

-- The layout of images with so many sectors. What has the size of no image is refused by layout 3, as an opening does.
abbrev pub layout_by_size : (sectors : ℕ) → Layout
layout_by_size sectors = if is_size sectors then Two else Three

-- what is told of the image on a device of so many sectors
abbrev pub told_of : (sectors : ℕ) → Image → List ℕ
told_of sectors image =
    report (512 * sectors) (layout_by_size sectors) (known_blocks sectors) (save_in sectors image) (gate_fits_in sectors image)
    (sha256 (concat (meaning sectors image)))

module _ {D : Type 0} (G : Ghosts D) where
  -- `check`: the image on the device, which has a meaning, was told of by reads alone, and no more of them than it asks for: of
  -- layout 3 the size alone tells how many. Nothing was written or synced, so a stop at any moment leaves what one could leave before.
  pub record ChecksImage (written written' : Option (List ℕ)) (device after : D) : Type 0 where
    pub goes : Becomes G device after
    pub meant : IsTrue (G.keeps_model device) → HasMeaning (G.sector_count device) (G.disk device).content
    pub told : IsTrue (G.keeps_model device)
        → Appends written written' (told_of (G.sector_count device) (G.disk device).content)
    pub same : IsTrue (G.keeps_model device) → G.disk after ≡ G.disk device
    pub stops : IsTrue (G.keeps_model device) → StopsLeave G device after (MayLeave (G.disk device))
    pub begins : BeginsAtMost G device after 0 0
    pub reads : IsTrue (G.keeps_model device) → ReadsAtMost G device after
        (reads_to_look (G.sector_count device) (G.disk device).content + 2 * known_blocks (G.sector_count device)
        + reads_of_gate (is_size (G.sector_count device)))
    pub few : is_size (G.sector_count device) ≡ false → ReadsAtMost G device after (5 * blocks_in (G.sector_count device) + 4)
