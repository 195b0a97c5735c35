-- What a copy and a salvage leave, on any two devices: the image that is only read, and the one that is made, of the same layout.
use Rattle.std.specs.Prelude.{◌≡◌, ℕ, ◌+◌, ◌*◌, ◌==◌, ◌&&◌, ◌++◌, ◌∷◌, [], nat_le, true, if◌then◌else◌, IsTrue, List, Option, Some, None, codes, option_and_then, option_map}
use Rattle.std.specs.Io.KnownBytes.{Appends}
use Rattle.sector_disk.specs.declared.device.SectorDevice.{Ghosts}
use Rattle.journal.specs.Calls.{BeginsAtMost, ReadsAtMost, StopsLeave}
use Rattle.journal.specs.Layout as journal
use Rattle.journal.specs.Layout.{listed, most_blocks}
use Rattle.journal.specs.PageLayout as pages
use Rattle.journal.specs.Suits.{suits}
use Rattle.recovery.specs.Label.{is_size}
use Rattle.recovery.specs.Steps.{OnlyRead}
use Rattle.shadow.specs.Label.{is_known_size}
use Rattle.shadow.specs.Upgraded.{known_blocks}
use Rattle.stores.specs.Opened.{image_refusal}
use Rattle.image_care.specs.Copied.{copied_blocks}
use Rattle.image_care.specs.Looked.{reads_to_look}
use Rattle.image_care.specs.Made.{MakingLeaves, writes_to_make}
use Rattle.image_care.specs.Salvaged.{IsUndamaged, reads_to_salvage, salvaged_blocks}
use Rattle.image_care.specs.Standing.{standing_of}
use Rattle.image_care.specs.declared.pages.standing.Standing.{Standing}
use Rattle.image_care.specs.declared.pages.standing.Standing.TheVariants.{Current, Other, Nowhere}
use Rattle.image_care.specs.declared.salvage_source.Taken.{Taken}
use Rattle.sessions.specs.Devices.{Becomes}
use Rattle.terminal.specs.Checked.{line}
use Rattle.terminal.specs.Damage.{damage_told}
use Rattle.terminal.specs.Done.{LeavesBlocks, blocks_on, meant_by}

-- how many blocks the image on a device of so many sectors has, if it has the size of one
abbrev pub count_on : (sectors : ℕ) → Option ℕ
count_on sectors = if is_known_size sectors then Some (known_blocks sectors) else None

-- how many sectors an image of n blocks has, of the layout that images of the one size have
abbrev pub sectors_like : (sectors n : ℕ) → ℕ
sectors_like sectors n = if is_size sectors then journal.sectors_for n else pages.sectors_for n

-- how many blocks a copy of an image of n blocks has, where so many are asked for: no fewer, and no more than an image may have
abbrev pub copied_count : (n : ℕ) → (asked : Option ℕ) → Option ℕ
copied_count n None = Some n
copied_count n (Some m) = if nat_le n m && nat_le m most_blocks then Some m else None

-- how many sectors the copy of an image on so many has
abbrev pub sectors_for_copy : (sectors : ℕ) → (asked : Option ℕ) → Option ℕ
sectors_for_copy sectors asked = option_map (sectors_like sectors) (option_and_then (λ n. copied_count n asked) (count_on sectors))

-- how many blocks are salvaged of an image of n blocks, which is to have so many
abbrev pub salvaged_count : (n : ℕ) → (asked : Option ℕ) → Option ℕ
salvaged_count n None = Some n
salvaged_count n (Some m) = if m == n then Some n else None

-- how many sectors the image has that a salvage makes of one on so many
abbrev pub sectors_for_salvage : (sectors : ℕ) → (asked : Option ℕ) → Option ℕ
sectors_for_salvage sectors asked = option_map (sectors_like sectors) (option_and_then (λ n. salvaged_count n asked) (count_on sectors))

-- where block b stood, by what a salvage took from other places and what it didn't have
abbrev pub standing_by : Taken → (b : ℕ) → Standing
standing_by taken b = if listed taken.others b then Other else (if listed taken.lost b then Nowhere else Current)

-- the line that each salvage by layout 2 tells
abbrev pub no_recovery : List ℕ
no_recovery = codes "salvaged, not recovered: of a save that was under way some blocks may be old and some new" ++ 10 ∷ []

-- the one by layout 3, after those of the damaged blocks
abbrev pub pages_no_recovery : List ℕ
pages_no_recovery = line (codes "salvaged, not recovered") (codes "a damaged block may be older, or written and not saved, or blank")

-- what a salvage of an image with so many sectors tells, whose blocks stood so
abbrev pub salvage_told : (sectors : ℕ) → (ℕ → Standing) → List ℕ
salvage_told sectors standing = if is_size sectors then no_recovery else damage_told sectors standing ++ pages_no_recovery

module _ {A B : Type 0} (G : Ghosts A) (H : Ghosts B) where
  -- `copy`: the image on the source, which an opening takes, was only read, and the other device has become an image of its
  -- blocks, as a recovery would leave them, with blank ones above them. A stop at any moment of it leaves of that one no image,
  -- or the whole one, or what could be left before, by layout 3 but for the other sectors in the label's unit.
  pub record Copies (source source' : A) (device after : B) : Type 0 where
    pub old : OnlyRead G source source'
    pub sound : IsTrue (G.keeps_model source) → image_refusal (G.sector_count source) (G.disk source).content ≡ None
    pub goes : Becomes H device after
    pub stops : IsTrue (G.keeps_model source) → IsTrue (suits H device)
        → StopsLeave H device after (MakingLeaves (H.sector_count device)
        (copied_blocks (G.sector_count source) (H.sector_count device) (G.disk source).content) (H.disk device))
    pub new : IsTrue (G.keeps_model source) → IsTrue (suits H device)
        → LeavesBlocks H after (copied_blocks (G.sector_count source) (H.sector_count device) (G.disk source).content)
    pub begins : BeginsAtMost H device after (writes_to_make (H.sector_count device)) 4
    pub looks : ReadsAtMost H device after 1
    pub reads : IsTrue (G.keeps_model source) → ReadsAtMost G source source'
        (reads_to_look (G.sector_count source) (G.disk source).content + 2 * blocks_on G source)

  -- `salvage`: the image on the source was only read, the other device has become an image of what was had of it, and it was
  -- told that this is no recovery, by layout 3 with the blocks that are damaged. Of an image that isn't damaged that is what the
  -- image means.
  pub record Salvages (written written' : Option (List ℕ)) (source source' : A) (device after : B) : Type 0 where
    pub old : OnlyRead G source source'
    pub goes : Becomes H device after
    pub stops : IsTrue (G.keeps_model source) → IsTrue (suits H device)
        → StopsLeave H device after (MakingLeaves (H.sector_count device)
        (salvaged_blocks (H.sector_count device) (G.disk source).content) (H.disk device))
    pub new : IsTrue (G.keeps_model source) → IsTrue (suits H device)
        → LeavesBlocks H after (salvaged_blocks (H.sector_count device) (G.disk source).content)
    pub undamaged : IsTrue (G.keeps_model source) → IsTrue (suits H device)
        → IsUndamaged (G.sector_count source) (G.disk source).content → LeavesBlocks H after (meant_by G source)
    pub told : IsTrue (G.keeps_model source)
        → Appends written written' (salvage_told (G.sector_count source) (standing_of (G.disk source).content))
    pub plain : is_size (G.sector_count source) ≡ true → Appends written written' no_recovery
    pub begins : BeginsAtMost H device after (writes_to_make (H.sector_count device)) 4
    pub looks : ReadsAtMost H device after 1
    pub reads : IsTrue (G.keeps_model source) → ReadsAtMost G source source' (reads_to_salvage (G.sector_count source) (G.disk source).content)

  -- Of a device an image was made, by what P says, on a device of so many sectors.
  abbrev pub MadeOf : (made : ℕ → B → Type 0) (wanted : Option ℕ) (P : A → A → B → B → Type 0)
      (source source' : A) (after : B) → Type 0
  MadeOf made wanted P source source' after =
      (sectors : ℕ) × (wanted ≡ Some sectors) × (device : B) × made sectors device × P source source' device after
