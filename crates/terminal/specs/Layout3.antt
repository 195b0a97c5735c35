-- What `new` and `upgrade` leave of images of layout 3, on any devices, and what they leave by the layout that is asked for.
use Rattle.std.specs.Prelude.{◌≡◌, ◌+◌, ◌*◌, ℕ, if◌then◌else◌, IsTrue, List, Option, None, Some}
use Rattle.sector_disk.specs.Disk.{Image, MayLeave, settled}
use Rattle.sector_disk.specs.declared.device.SectorDevice.{Ghosts}
use Rattle.journal.specs.Calls.{BeginsAtMost, ReadsAtMost, StopsLeave}
use Rattle.journal.specs.Images.{meaning}
use Rattle.journal.specs.Layout as older
use Rattle.recovery.specs.Formatted.{blank_blocks}
use Rattle.shadow.specs.Formatted.{FormatLeaves, MakingLeaves}
use Rattle.journal.specs.PageImages.{Means}
use Rattle.journal.specs.PageLayout.{sectors_for}
use Rattle.journal.specs.Layout.{most_blocks_1}
use Rattle.journal.specs.Sizes.{is_size_within}
use Rattle.shadow.specs.Label.{is_known_size}
use Rattle.shadow.specs.Upgraded.{known_blocks, older_refusal, reads_to_list}
use Rattle.sessions.specs.Devices.{Becomes}
use Rattle.terminal.specs.Done.{MakesBlank, Upgrades, blocks_on}
use Rattle.command_line.specs.declared.orders.Layout.{Layout}
use Rattle.command_line.specs.declared.orders.Layout.TheVariants.{Two, Three}

module _ {D : Type 0} (G : Ghosts D) where
  -- A stop now leaves these blocks, by layout 3.
  abbrev pub LeavesNewer : D → List (List ℕ) → Type 0
  LeavesNewer device blocks = (image : Image) → MayLeave (G.disk device) image → Means blocks image

  -- the blocks that an image of layout 1 or 2 on the device means
  abbrev pub meant_by_older : D → List (List ℕ)
  meant_by_older device = meaning (blocks_on G device) (G.disk device).content

  -- `new`: the device was formatted, and has become an image of n blank blocks, of layout 3.
  pub record MakesNewer (n : ℕ) (device after : D) : Type 0 where
    pub goes : Becomes G device after
    pub stops : IsTrue (G.keeps_model device) → StopsLeave G device after (FormatLeaves n (G.disk device))
    pub blank : IsTrue (G.keeps_model device) → LeavesNewer after (blank_blocks n)
    pub begins : BeginsAtMost G device after (4 * n + 5) 4
    pub reads : ReadsAtMost G device after 1

  -- The same by this layout.
  abbrev pub MakesBlankBy : Layout → (n : ℕ) (device after : D) → Type 0
  MakesBlankBy Two = MakesBlank G
  MakesBlankBy Three = MakesNewer

module _ {A B : Type 0} (G : Ghosts A) (H : Ghosts B) where
  -- `upgrade`: the one device has become an image of layout 3 of the blocks that the image of layout 1 or 2 on the other means.
  -- That one, in which nothing is refused, was synced once and read: it holds what it held, and a stop at any moment of it leaves
  -- what one before could leave. A stop leaves of the new one no image, or the whole one, or what could be left before, but for the
  -- other sectors in the label's unit.
  pub record UpgradesNewer (source source' : A) (device after : B) : Type 0 where
    pub old : Becomes G source source'
    pub sound : IsTrue (G.keeps_model source)
        → older_refusal (blocks_on G source) (G.sector_count source) (G.disk source).content ≡ None
    pub same : IsTrue (G.keeps_model source) → G.disk source' ≡ settled (G.disk source)
    pub left : IsTrue (G.keeps_model source) → StopsLeave G source source' (MayLeave (G.disk source))
    pub unwritten : BeginsAtMost G source source' 0 1
    pub reads : IsTrue (G.keeps_model source) → ReadsAtMost G source source'
        (reads_to_list (blocks_on G source) (G.disk source).content + 2 * blocks_on G source + 1)
    pub goes : Becomes H device after
    pub stops : IsTrue (G.keeps_model source) → IsTrue (H.keeps_model device)
        → StopsLeave H device after (MakingLeaves (blocks_on G source) (meant_by_older G source) (H.disk device))
    pub new : IsTrue (G.keeps_model source) → IsTrue (H.keeps_model device) → LeavesNewer H after (meant_by_older G source)
    pub begins : BeginsAtMost H device after (4 * blocks_on G source + 5) 4
    pub looks : ReadsAtMost H device after 1

-- how many sectors an image of n blocks has by this layout
abbrev pub sectors_by : Layout → ℕ → ℕ
sectors_by Two n = older.sectors_for n
sectors_by Three n = sectors_for n

-- how many sectors the image of this layout has that an upgrade makes of one on so many: to layout 2 of one of layout 1
abbrev pub sectors_for_upgrade : Layout → (sectors : ℕ) → Option ℕ
sectors_for_upgrade Two sectors = if is_size_within most_blocks_1 sectors then Some sectors else None
sectors_for_upgrade Three sectors = if is_known_size sectors then Some (sectors_for (known_blocks sectors)) else None

-- `upgrade`: the blocks of the one device went into an image of this layout on the other.
abbrev pub UpgradesBy : {D : Type 0} (G : Ghosts D) → Layout → (source source' device after : D) → Type 0
UpgradesBy G Two = Upgrades G
UpgradesBy G Three = UpgradesNewer G G
