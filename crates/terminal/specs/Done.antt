-- What a command over images does, on any device: from the device that it opens or makes to what that has become.
use Rattle.std.specs.Prelude.{◌≡◌, ⊤, ◌⊎◌, ◌+◌, ◌-◌, ◌*◌, ◌<◌, ◌≤◌, ℕ, Bool, false, IsTrue, List, length, Option, Some}
use Rattle.std.specs.Io.KnownBytes.{Appends}
use Rattle.sector_disk.specs.Disk.{Image, MayLeave}
use Rattle.sector_disk.specs.declared.device.SectorDevice.{Ghosts}
use Rattle.journal.specs.Calls.{BeginsAtMost, ReadsAtMost, StopsLeave}
use Rattle.journal.specs.Maps.{Maps, contents, fresh, latest, spilled}
use Rattle.block_words.specs.Words.{Save}
use Rattle.recovery.specs.Formatted.{FormatLeaves, MakingLeaves, blank_blocks}
use Rattle.recovery.specs.Upgraded.{OldLeaves}
use Rattle.shadow.specs.Upgraded.{known_blocks}
use Rattle.journal.specs.BySize.{Means}
use Rattle.stores.specs.Images.{HasMeaning, meaning}
use Rattle.stores.specs.Opened.{OpeningLeaves, reads_for, syncs_for, writes_for}
use Rattle.journal.specs.Suits.{suits}
use Rattle.interpreter.specs.State.{Forth}
use Rattle.interpreter.specs.Lines.{new_forth, undoing}
use Rattle.interpreter.specs.Promise.{Keeps}
use Rattle.command_line.specs.declared.orders.Form.{Form}
use Rattle.terminal.specs.Findings.{AreSound, blocks_for, said_all}
use Rattle.terminal.specs.declared.left.Left.{Left}
use Rattle.terminal.specs.declared.left.Left.TheVariants.{Nothing, Opened, Made, Upgraded as Both, Looked, Compared as LookedBoth, Copied}
use Rattle.terminal.specs.Layout2 as older
use Rattle.terminal.specs.Screen.{listing, screen_of}
use Rattle.terminal.specs.Transfer.{as_blocks, exports, spilled_from}
use Rattle.sessions.specs.Devices.{Becomes}
use Rattle.sessions.specs.Sessions.{BreaksOff, Completes}
use Rattle.sessions.specs.declared.run_fault.RunFault.{RunFault}

-- what each line of a session is allowed: so many steps, and whether it is an event, which is undone where it fails
pub record Allowed : Type 0 where
  pub steps : ℕ
  pub undoes : Bool

abbrev pub allowing : ℕ → Bool → Allowed
allowing steps undoes = record { steps = steps; undoes = undoes }

-- a new system over a store with these maps, whose lines are allowed so much
abbrev pub new_system : Allowed → Maps → Forth
new_system allowed maps = undoing allowed.undoes (new_forth allowed.steps maps)

module _ {D : Type 0} (G : Ghosts D) where
  -- The image means these blocks, by the layout that the device's size tells.
  abbrev pub MeansOn : D → List (List ℕ) → Image → Type 0
  MeansOn device blocks image = Means (G.sector_count device) blocks image

  -- A stop now leaves these blocks.
  abbrev pub LeavesBlocks : D → List (List ℕ) → Type 0
  LeavesBlocks device blocks = (image : Image) → MayLeave (G.disk device) image → MeansOn device blocks image

  -- how many blocks an image on the device has
  abbrev pub blocks_on : D → ℕ
  blocks_on device = known_blocks (G.sector_count device)

  -- the blocks that the image on the device means
  abbrev pub meant_by : D → List (List ℕ)
  meant_by device = meaning (G.sector_count device) (G.disk device).content

  -- A store that is opened on the device has these maps.
  abbrev pub maps_on : D → Maps
  maps_on device = fresh (meant_by device)

  -- A recovery of the image on the device. A stop at any moment of it leaves an image that follows one which could be left
  -- before, or by layout 3 such an image itself, and no more writes, syncs and reads are begun than this image asks for.
  pub record Recovers (device begun : D) : Type 0 where
    pub goes : Becomes G device begun
    pub sectors : G.sector_count begun ≡ G.sector_count device
    pub stops : IsTrue (suits G device) → StopsLeave G device begun (OpeningLeaves (G.sector_count device) (G.disk device))
    pub begins : IsTrue (suits G device) → BeginsAtMost G device begun
        (writes_for (G.sector_count device) (G.disk device).content) (syncs_for (G.sector_count device) (G.disk device).content)
    pub reads : IsTrue (suits G device)
        → ReadsAtMost G device begun (reads_for (G.sector_count device) (G.disk device).content)

  -- `new`: the device was formatted, and has become an image of n blank blocks, of layout 2.
  pub record MakesBlank (n : ℕ) (device after : D) : Type 0 where
    pub goes : Becomes G device after
    pub stops : IsTrue (G.keeps_sectors device) → StopsLeave G device after (FormatLeaves n (G.disk device))
    pub blank : IsTrue (G.keeps_sectors device) → older.LeavesBlocks G after (blank_blocks n)
    pub begins : BeginsAtMost G device after (2 * n + 4) 4
    pub reads : ReadsAtMost G device after 1

  -- A session from the opening state on: the input was read to its end, and the output is its replies. What a stop may have
  -- left are blocks as they were saved, and at the end, where no fault has closed the store, those that were saved last.
  pub record RunsFrom (opening : Forth) (left left' written written' : Option (List ℕ)) (old new : D) : Type 0 where
    pub closing : Forth
    pub made : List Save
    pub completes : Completes G opening closing left left' written written' old new made
    pub keeps : Keeps G opening closing old new made
    pub saved : closing.world.maps.closed ≡ false → LeavesBlocks new closing.world.maps.saved

  -- A session from the opening state on, which the reader or the writer cut short. What a stop may have left are blocks as they
  -- were saved, and at the end, where no fault has closed the store, those that were saved last: what was changed and not saved
  -- is given up.
  pub record BreaksFrom (fault : RunFault) (opening : Forth) (left left' written written' : Option (List ℕ)) (old new : D) : Type 0 where
    pub closing : Forth
    pub made : List Save
    pub breaks : BreaksOff G fault opening closing left left' written written' old new made
    pub keeps : Keeps G opening closing old new made
    pub saved : closing.world.maps.closed ≡ false → LeavesBlocks new closing.world.maps.saved

  -- `run`: a recovery, and a session over the blocks of the image.
  pub record RunsSession (allowed : Allowed) (left left' written written' : Option (List ℕ)) (device after : D) : Type 0 where
    pub begun : D
    pub recovers : Recovers device begun
    pub well : G.failures begun ≡ G.failures device
    pub meant : IsTrue (suits G device) → HasMeaning (G.sector_count device) (G.disk device).content
    pub goes : Becomes G begun after
    pub runs : IsTrue (suits G device)
        → RunsFrom (new_system allowed (maps_on device)) left left' written written' begun after

  -- `list`: a recovery, and the listing of a block that is there was printed. Nothing was written for it, and the block was
  -- read once, so a stop at any moment after the recovery, and at the end, leaves the blocks as they were.
  pub record ListsBlock (b : ℕ) (written written' : Option (List ℕ)) (device after : D) : Type 0 where
    pub begun : D
    pub recovers : Recovers device begun
    pub well : G.failures begun ≡ G.failures device
    pub meant : IsTrue (suits G device) → HasMeaning (G.sector_count device) (G.disk device).content
    pub goes : Becomes G begun after
    pub there : b < blocks_on device
    pub listed : IsTrue (suits G device) → Appends written written' (listing (contents (maps_on device) b))
    pub stops : IsTrue (suits G device) → StopsLeave G begun after (MeansOn device (meant_by device))
    pub same : IsTrue (suits G device) → LeavesBlocks after (meant_by device)
    pub begins : BeginsAtMost G begun after 0 0
    pub reads : ReadsAtMost G begun after 2

  -- From one device to the other these bytes were made a block of these maps, in one save: a stop at any moment of it leaves
  -- the saved blocks, or these with the bytes in that block, and once it has returned the latter.
  pub record SavesBlock (m : Maps) (b : ℕ) (bytes : List ℕ) (old new : D) : Type 0 where
    pub stops : StopsLeave G old new (λ image. MeansOn old m.saved image ⊎ MeansOn old (latest (spilled m b bytes)) image)
    pub after : LeavesBlocks new (latest (spilled m b bytes))

  -- The same of these blocks from block b on, where no fault has closed the store.
  pub record SavesBlocks (m : Maps) (b : ℕ) (blocks : List (List ℕ)) (old new : D) : Type 0 where
    pub stops : m.closed ≡ false → StopsLeave G old new
        (λ image. MeansOn old m.saved image ⊎ MeansOn old (latest (spilled_from m b blocks)) image)
    pub after : LeavesBlocks new (latest (spilled_from m b blocks))

  -- The same of the lines of such a text.
  abbrev pub SavesText : Maps → ℕ → (is_text : List ℕ → Type 0) → (old new : D) → Type 0
  SavesText m b is_text old new =
      (text : List ℕ) × is_text text × (bytes : List ℕ) × (screen_of text ≡ Some bytes) × SavesBlock m b bytes old new

  -- `put`: a recovery, and the lines of the text were made a block that is there, in one save, and no other block was changed.
  pub record PutsBlock (b : ℕ) (is_text : List ℕ → Type 0) (device after : D) : Type 0 where
    pub begun : D
    pub recovers : Recovers device begun
    pub well : G.failures begun ≡ G.failures device
    pub meant : IsTrue (suits G device) → HasMeaning (G.sector_count device) (G.disk device).content
    pub goes : Becomes G begun after
    pub there : b < blocks_on device
    pub saves : IsTrue (suits G device) → SavesText (maps_on device) b is_text begun after
    pub begins : BeginsAtMost G begun after 7 4
    pub reads : ReadsAtMost G begun after 4

  -- `export`: a recovery, and the blocks from the first to the last, which are there, were printed in this form. Nothing was
  -- written for it, and each block was read once, so a stop at any moment after the recovery, and at the end, leaves the blocks
  -- as they were.
  pub record Exports (form : Form) (first last : ℕ) (written written' : Option (List ℕ)) (device after : D) : Type 0 where
    pub begun : D
    pub recovers : Recovers device begun
    pub well : G.failures begun ≡ G.failures device
    pub meant : IsTrue (suits G device) → HasMeaning (G.sector_count device) (G.disk device).content
    pub goes : Becomes G begun after
    pub ordered : first ≤ last
    pub there : last < blocks_on device
    pub printed : IsTrue (suits G device) → Appends written written' (exports form (maps_on device) first (last + 1 - first))
    pub stops : IsTrue (suits G device) → StopsLeave G begun after (MeansOn device (meant_by device))
    pub same : IsTrue (suits G device) → LeavesBlocks after (meant_by device)
    pub begins : BeginsAtMost G begun after 0 0
    pub reads : ReadsAtMost G begun after (2 * (last + 1 - first))

  -- `import`: a recovery, and the blocks that the files say, of which nothing is refused, were made those from the first on, in one
  -- save, and no other block was changed. Each file begins a block.
  pub record ImportsBlocks (form : Form) (first : ℕ) (are_texts : List (List ℕ) → Type 0) (device after : D) : Type 0 where
    pub begun : D
    pub recovers : Recovers device begun
    pub well : G.failures begun ≡ G.failures device
    pub meant : IsTrue (suits G device) → HasMeaning (G.sector_count device) (G.disk device).content
    pub goes : Becomes G begun after
    pub files : List (List ℕ)
    pub each : are_texts files
    pub sound : AreSound form (blocks_on device - first) files
    pub below : first < blocks_on device
    pub there : first + blocks_for (length (said_all form files)) ≤ blocks_on device
    pub saves : IsTrue (suits G device) → SavesBlocks (maps_on device) first (as_blocks (said_all form files)) begun after
    pub begins : BeginsAtMost G begun after (4 * blocks_for (length (said_all form files)) + 3) 4
    pub reads : ReadsAtMost G begun after (4 * blocks_for (length (said_all form files)))

  -- `import --check`: nothing is refused of the files, for which there are blocks from the first on. No call of the device was made.
  pub record LooksAt (form : Form) (first : ℕ) (are_texts : List (List ℕ) → Type 0) (device after : D) : Type 0 where
    pub same : after ≡ device
    pub files : List (List ℕ)
    pub each : are_texts files
    pub sound : AreSound form (blocks_on device - first) files
    pub below : first < blocks_on device
    pub there : first + blocks_for (length (said_all form files)) ≤ blocks_on device

  -- `upgrade`: the one device has become an image of layout 2 of the blocks that the image of layout 1 on the other means. That one
  -- was recovered, and means the same.
  pub record Upgrades (source source' device after : D) : Type 0 where
    pub reads : Becomes G source source'
    pub old : IsTrue (G.keeps_sectors source) → StopsLeave G source source' (OldLeaves (older.blocks_on G source) (G.disk source))
    pub goes : Becomes G device after
    pub stops : IsTrue (G.keeps_sectors source) → IsTrue (G.keeps_sectors device)
        → StopsLeave G device after (MakingLeaves (older.blocks_on G source) (older.meant_by G source) (G.disk device))
    pub new : IsTrue (G.keeps_sectors source) → IsTrue (G.keeps_sectors device) → older.LeavesBlocks G after (older.meant_by G source)

  -- The device was such a one, and has become this by what P says.
  abbrev pub Comes : (first : D → Type 0) (P : D → D → Type 0) (after : D) → Type 0
  Comes first P after = (device : D) × first device × P device after

  -- What is left is such a device, which has become this by what P says. `keep` tells what is left of a device.
  abbrev pub DoneOn : {L : Type 0} (keep : D → L) (first : D → Type 0) (P : D → D → Type 0) (left : L) → Type 0
  DoneOn keep first P left = (after : D) × (left ≡ keep after) × Comes first P after

-- Of each device that is left, P holds if it was opened for writing too or made, and Q if it was opened for reading alone.
abbrev pub EachLeft : {D E : Type 0} (P : D → Type 0) (Q : E → Type 0) → Left D E → Type 0
EachLeft P Q Nothing = ⊤
EachLeft P Q (Opened device) = P device
EachLeft P Q (Made device) = P device
EachLeft P Q (Both old new) = P old × P new
EachLeft P Q (Looked device) = Q device
EachLeft P Q (LookedBoth old new) = Q old × Q new
EachLeft P Q (Copied old new) = Q old × P new

-- A device is given, of which P holds.
abbrev pub IsGiven : {D : Type 0} (given : Option D) (P : D → Type 0) → Type 0
IsGiven {D} given P = (device : D) × (given ≡ Some device) × P device
