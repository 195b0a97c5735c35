-- An image of blank blocks, by the layout that the device's size tells.
use Rattle.std.specs.Prelude.{◌+◌, ◌*◌, ◌||◌, ℕ, if◌then◌else◌, Bool, MatchBool}
use Rattle.sector_disk.specs.Disk.{Image}
use Rattle.sector_disk.specs.declared.device.SectorDevice.{Ghosts}
use Rattle.recovery.specs.Formatted as older
use Rattle.recovery.specs.Label as older_label
use Rattle.shadow.specs.Formatted as newer
use Rattle.shadow.specs.Label as newer_label

-- whether an image of so many blocks has so many sectors, by one layout or the other
abbrev pub fits_image : (blocks sectors : ℕ) → Bool
fits_image blocks sectors = older_label.is_size_for blocks sectors || newer_label.is_size_for blocks sectors

-- how many writes a format begins at most
abbrev pub writes_to_format : (sectors blocks : ℕ) → ℕ
writes_to_format sectors blocks = if older_label.is_size sectors then 2 * blocks + 4 else 4 * blocks + 5

-- A stop of a format of the device may leave the image.
abbrev pub FormattingLeaves : {D : Type 0} → Ghosts D → D → (blocks : ℕ) → Image → Type 0
FormattingLeaves G device blocks image = MatchBool (older_label.is_size (G.sector_count device))
    (older.FormatLeaves blocks (G.disk device) image) (newer.FormatLeaves blocks (G.disk device) image)
