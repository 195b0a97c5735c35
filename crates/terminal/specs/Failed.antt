-- What a command over images leaves where it failed, on any device: from the device that it opened or made to what that has become.
use Rattle.std.specs.Prelude.{◌≡◌, ◌≢◌, ◌⊎◌, ℕ, Bool, true, false, ◌+◌, ◌-◌, ◌*◌, ◌≤◌, ◌<◌, IsTrue, List, [], MatchBool, Option, None, Some, option_map}
use Rattle.std.specs.Io.KnownBytes.{Appends}
use Rattle.sector_disk.specs.Counting.{count_up}
use Rattle.sector_disk.specs.declared.device.SectorDevice.{Ghosts}
use Rattle.journal.specs.Calls.{BeginsAtMost, ReadsAtMost, StopsLeave}
use Rattle.journal.specs.Maps.{latest, spilled}
use Rattle.journal.specs.Suits.{suits}
use Rattle.recovery.specs.Formatted as older_making
use Rattle.recovery.specs.Steps.{OnlyRead, WentWell}
use Rattle.recovery.specs.Upgraded as older_upgrade
use Rattle.recovery.specs.Upgraded.{OldLeaves}
use Rattle.recovery.specs.declared.fault.UpgradeFault.{UpgradeFault}
use Rattle.shadow.specs.Formatted as newer_making
use Rattle.shadow.specs.Upgraded as newer_upgrade
use Rattle.sector_disk.specs.Disk.{Image, MayLeave}
use Rattle.stores.specs.Opened.{image_refusal}
use Rattle.image_care.specs.Copied.{copied_blocks, copy_refusal}
use Rattle.image_care.specs.Mended.{HasLostRecord, IsMendedBySize}
use Rattle.image_care.specs.Made.{MakingLeaves, writes_to_make}
use Rattle.image_care.specs.Salvaged.{salvage_refusal, salvaged_blocks}
use Rattle.image_care.specs.Through.{ReadsThrough, image_of}
use Rattle.sessions.specs.Devices.{Becomes}
use Rattle.sessions.specs.Strict.{NoneFailed, strict_ones}
use Rattle.sessions.specs.declared.strictness.Strictness.{Strictness}
use Rattle.sessions.specs.declared.run_fault.RunFault.{RunFault}
use Rattle.command_line.specs.declared.orders.Form.{Form}
use Rattle.command_line.specs.declared.orders.Layout.{Layout}
use Rattle.command_line.specs.declared.orders.Layout.TheVariants.{Two, Three}
use Rattle.command_line.specs.declared.orders.Script.{Script}
use Rattle.terminal.specs.declared.deeds.Looking.{Looking}
use Rattle.terminal.specs.declared.deeds.Looking.TheVariants.{Check, Digests}
use Rattle.terminal.specs.declared.deeds.Printing.{Printing}
use Rattle.terminal.specs.declared.deeds.Printing.TheVariants.{List as ListBlock, Export}
use Rattle.terminal.specs.Checked.{layout_by_size}
use Rattle.terminal.specs.Compared.{OneFailed, refusal_of_either}
use Rattle.terminal.specs.Damage.{damage_report}
use Rattle.terminal.specs.Done.{BreaksFrom, DoneOn, LeavesBlocks, MeansOn, Recovers, blocks_on, maps_on, meant_by, Allowed, new_system}
use Rattle.terminal.specs.Failures.{of_image, of_run, of_upgrade}
use Rattle.terminal.specs.Findings.{AreSound, said_all}
use Rattle.terminal.specs.Layout3.{meant_by_older, sectors_by}
use Rattle.terminal.specs.Layout2 as older
use Rattle.terminal.specs.Screen.{screen_of}
use Rattle.terminal.specs.Scripts.{IsLed, load_line, allowed_by, strictness_of}
use Rattle.terminal.specs.Shown.{block_refusal, blocks_refusal}
use Rattle.terminal.specs.Standing.{AfterFault, OneIsDamaged, has_pages}
use Rattle.terminal.specs.Texts.{OneIsUnread}
use Rattle.terminal.specs.Through.{TellsUnread}
use Rattle.terminal.specs.Transfer.{as_blocks, spilled_from}
use Rattle.terminal.specs.Unopened.{IsUnmade, IsUnopened}
use Rattle.terminal.specs.declared.failure.Failure.{Failure}
use Rattle.terminal.specs.declared.failure.Failure.TheVariants.{BadSize, CannotOpen, CannotRead, CannotWrite, Damaged, Device, NoBlock, NoMemory, NotAScreen}
use Rattle.terminal.specs.declared.left.Left.{Left}
use Rattle.terminal.specs.declared.left.Left.TheVariants as files

-- ---- which files were opened

-- The device is as it was opened: no call of it was made. Its size doesn't fit, and that is told; else the new file wasn't made.
pub record IsUntouched {D : Type 0} (fits : D → Bool) (failure : Failure) (device after : D) : Type 0 where
  pub same : after ≡ device
  pub told : MatchBool (fits device) (IsUnmade failure) (failure ≡ BadSize)

-- the texts are refused, or can't be had, or there is no memory for what they say, or the block that the first of them is to fill
-- isn't there
abbrev pub IsOfTexts : Failure → Type 0
IsOfTexts failure = (failure ≡ NoBlock) ⊎ ((failure ≡ NotAScreen) ⊎ ((failure ≡ CannotRead) ⊎ (failure ≡ NoMemory)))

-- `import --check`: no call of the device was made. Its size doesn't fit, and that is told; else one of these is, and that a file can't
-- be read only where the text of one wasn't had.
pub record LooksInVain {D : Type 0} (fits : D → Bool) (unread : Type 0) (failure : Failure) (device after : D) : Type 0 where
  pub same : after ≡ device
  pub told : MatchBool (fits device) (IsOfTexts failure) (failure ≡ BadSize)
  pub cannot : failure ≡ CannotRead → unread

-- ---- what is told

-- what was found couldn't be printed
abbrev pub IsUnprinted : Failure → Type 0
IsUnprinted failure = failure ≡ CannotWrite

-- what was found couldn't be told: there was no memory for it, or it couldn't be printed
abbrev pub IsUntold : Failure → Type 0
IsUntold failure = (failure ≡ NoMemory) ⊎ IsUnprinted failure

-- A call of the device failed.
abbrev pub CallFailed : {D : Type 0} (G : Ghosts D) (old new : D) → Type 0
CallFailed G old new = G.failures new ≡ count_up (G.failures old)

-- A fault of the device is told just where a call of it failed.
pub record TellsFault {D : Type 0} (G : Ghosts D) (failure : Failure) (old new : D) : Type 0 where
  pub failed : failure ≡ Device → CallFailed G old new
  pub well : failure ≢ Device → G.failures new ≡ G.failures old

-- An image was to be made of another one. A fault of a device is told just where a call of either failed; anything else is this
-- refusal, by what holds of the old image where it keeps the model, and no call of the new one was made.
pub record TellsRefusal {A B : Type 0} (G : Ghosts A) (H : Ghosts B) (keeps : Bool) (refusal : Option UpgradeFault) (failure : Failure)
    (source source' : A) (device after : B) : Type 0 where
  pub failed : failure ≡ Device → CallFailed G source source' ⊎ CallFailed H device after
  pub well : failure ≢ Device → WentWell G H source source' device after
  pub unasked : failure ≢ Device → after ≡ device
  pub told : IsTrue keeps → (failure ≡ Device) ⊎ (Some failure ≡ option_map of_upgrade refusal)

-- `upgrade` to layout 3, from the one device to the other: the old image was written nowhere, and synced at most once.
pub record NewerUpgradeFails {A B : Type 0} (G : Ghosts A) (H : Ghosts B) (failure : Failure) (source source' : A) (device after : B) : Type 0 where
  pub old : Becomes G source source'
  pub left : IsTrue (G.keeps_model source) → StopsLeave G source source' (MayLeave (G.disk source))
  pub unwritten : BeginsAtMost G source source' 0 1
  pub goes : Becomes H device after
  pub stops : IsTrue (G.keeps_model source) → IsTrue (H.keeps_model device) → StopsLeave H device after
      (newer_making.MakingLeaves (blocks_on G source) (meant_by_older G source) (H.disk device))
  pub tells : TellsRefusal G H (G.keeps_model source)
      (newer_upgrade.upgrade_refusal (G.sector_count source) (H.sector_count device) (G.disk source).content) failure source source' device after

module _ {D : Type 0} (G : Ghosts D) where
  -- A command over an image that is opened has failed: the file wasn't opened, and nothing is left; or what is left is the device,
  -- which has become this by what P says.
  abbrev pub FailsOn : {A B : Type 0} (keep : D → Left A B) (opened : D → Type 0) (P : Failure → D → D → Type 0)
      → Failure → Left A B → Type 0
  FailsOn keep opened P failure left = ((left ≡ files.Nothing) × IsUnopened failure) ⊎ DoneOn G keep opened (P failure) left

  -- ---- of an image that is opened for writing too

  -- The image was refused for this, or a call of the device failed while it was opened. A stop at any moment of it, however it
  -- ended, leaves what one of a recovery may leave.
  pub record RefusesImage (failure : Failure) (device after : D) : Type 0 where
    pub recovers : Recovers G device after
    pub told : IsTrue (suits G device) → (failure ≡ Device)
        ⊎ (Some failure ≡ option_map of_image (image_refusal (G.sector_count device) (G.disk device).content))
    pub faults : TellsFault G failure device after
    pub unasked : failure ≡ BadSize → after ≡ device
    pub unwritten : failure ≢ Device → BeginsAtMost G device after 0 1

  -- The image was opened, after its recovery, of which no call failed, and then was done what P says.
  pub record OpensThen (P : (device begun after : D) → Type 0) (device after : D) : Type 0 where
    pub begun : D
    pub recovers : Recovers G device begun
    pub well : G.failures begun ≡ G.failures device
    pub same : IsTrue (suits G device) → LeavesBlocks G begun (meant_by G device)
    pub goes : Becomes G begun after
    pub done : P device begun after

  -- A command failed: the image was refused, or it was opened, and then was done what P says.
  abbrev pub FailsAfter : (P : Failure → (device begun after : D) → Type 0) → Failure → (device after : D) → Type 0
  FailsAfter P failure device after = RefusesImage failure device after ⊎ OpensThen (P failure) device after

  -- Blocks weren't had from where they stand: a read failed, or none did, and what this says of the image is why.
  abbrev pub NotHad : (why : Image → Type 0) → (device after : D) → Type 0
  NotHad why device after = CallFailed G device after
      ⊎ ((G.failures after ≡ G.failures device) × (IsTrue (G.keeps_model device) → why (G.disk device).content))

  -- The blocks from the first to the last weren't: the image isn't one of layout 3 that has them, and no call of the device was made; or a
  -- read failed; or one of them doesn't stand whole where it counts.
  abbrev pub NotHadOf : (first last : ℕ) → (device after : D) → Type 0
  NotHadOf first last device after = ((has_pages first last (G.sector_count device) ≡ false) × (after ≡ device))
      ⊎ NotHad (OneIsDamaged first (last + 1)) device after

  -- `list`, `export`: a call of the device had failed, and the blocks from the first to the last weren't printed from where they stand, by
  -- reads alone: they weren't had, and the same failure is told; or the output failed, and no call did.
  pub record StandingFails (first last : ℕ) (failure : Failure) (device after : D) : Type 0 where
    pub reads : OnlyRead G device after
    pub told : (failure ≡ Device) ⊎ IsUnprinted failure
    pub unhad : failure ≡ Device → NotHadOf first last device after
    pub well : failure ≢ Device → G.failures after ≡ G.failures device

  -- What was done then of an image that wasn't opened, or of which a look failed: nothing, and the failure is told again; or the blocks
  -- were looked for where they stand.
  abbrev pub NotStanding : (first last : ℕ) → (before failure : Failure) → (device after : D) → Type 0
  NotStanding first last before failure device after =
      ((before ≢ Device) × (failure ≡ before) × (after ≡ device)) ⊎ ((before ≡ Device) × StandingFails first last failure device after)

  -- `list`, `export`: the image was refused, and no call of the device failed; or one failed while it was opened, and then the blocks
  -- weren't printed from where they stand; or it was opened, and then was done what P says.
  abbrev pub FailsToPrint : (first last : ℕ) (P : Failure → (device begun after : D) → Type 0) → Failure → (device after : D) → Type 0
  FailsToPrint first last P failure device after = ((failure ≢ Device) × RefusesImage failure device after)
      ⊎ AfterFault (RefusesImage Device) (StandingFails first last failure) device after ⊎ OpensThen (P failure) device after

  -- `run`: there was no memory for a system, and nothing was done or read or printed.
  pub record NotBegun (left left' written written' : Option (List ℕ)) (failure : Failure) (device begun after : D) : Type 0 where
    pub memory : failure ≡ NoMemory
    pub same : after ≡ begun
    pub unread : left' ≡ left
    pub unwritten : written' ≡ written

  -- `run`: the input or the output failed in a session over the blocks of the image, which keeps what it had saved. No line
  -- had failed with which it would have ended.
  pub record BreaksSession (allowed : Allowed) (strictness : Strictness) (left left' written written' : Option (List ℕ)) (failure : Failure)
      (device begun after : D) : Type 0 where
    pub fault : RunFault
    pub told : failure ≡ of_run fault
    pub breaks : IsTrue (suits G device) → BreaksFrom G fault (new_system allowed (maps_on G device)) left left' written written' begun after
    pub unfailed : (keeps : IsTrue (suits G device)) → NoneFailed (strict_ones strictness (breaks keeps).breaks.turns)

  abbrev pub RunFails : (allowed : Allowed) (strictness : Strictness) (left left' written written' : Option (List ℕ)) → Failure
      → (device begun after : D) → Type 0
  RunFails allowed strictness left left' written written' failure device begun after =
      NotBegun left left' written written' failure device begun after
      ⊎ BreaksSession allowed strictness left left' written written' failure device begun after

  -- The image was read by so many calls at most, and nothing was written: a stop at any moment, and at the end, leaves the blocks
  -- as they were.
  pub record OnlyReads (most : ℕ) (device begun after : D) : Type 0 where
    pub stops : IsTrue (suits G device) → StopsLeave G begun after (MeansOn G device (meant_by G device))
    pub same : IsTrue (suits G device) → LeavesBlocks G after (meant_by G device)
    pub begins : BeginsAtMost G begun after 0 0
    pub reads : ReadsAtMost G begun after most

  -- `list`: no block is told just where it isn't there, and a fault of the device only where a call of it failed. Else the output failed.
  pub record ListFails (b : ℕ) (failure : Failure) (device begun after : D) : Type 0 where
    pub reads : OnlyReads 2 device begun after
    pub only : (failure ≡ NoBlock) ⊎ (failure ≡ Device) ⊎ (failure ≡ CannotWrite)
    pub failed : failure ≡ Device → CallFailed G begun after
    pub no_block : failure ≡ NoBlock → blocks_on G device ≤ b
    pub missing : blocks_on G device ≤ b → failure ≡ NoBlock

  -- `export`: the same, but no block is told just where the last one isn't there, or comes before the first.
  pub record ExportFails (first last : ℕ) (failure : Failure) (device begun after : D) : Type 0 where
    pub reads : OnlyReads (2 * (last + 1 - first)) device begun after
    pub only : (failure ≡ NoBlock) ⊎ (failure ≡ Device) ⊎ (failure ≡ CannotWrite)
    pub failed : failure ≡ Device → CallFailed G begun after
    pub no_block : failure ≡ NoBlock → (last < first) ⊎ (blocks_on G device ≤ last)
    pub missing : (last < first) ⊎ (blocks_on G device ≤ last) → failure ≡ NoBlock

  -- `put`: only a failed save made a call of the device. A stop at any moment of it leaves the blocks as they were, or these with
  -- the lines of the text in that block. No block is told just where it isn't there, and that the text can't be read only where it wasn't
  -- had; else there was no memory, the text isn't a screen, or the save failed.
  pub record PutFails (b : ℕ) (is_text : List ℕ → Type 0) (unread : Type 0) (failure : Failure) (device begun after : D) : Type 0 where
    pub unsaved : failure ≢ Device → after ≡ begun
    pub stops : IsTrue (suits G device) → StopsLeave G begun after (λ image. MeansOn G device (meant_by G device) image
        ⊎ ((text : List ℕ) × is_text text × (bytes : List ℕ) × (screen_of text ≡ Some bytes)
        × MeansOn G device (latest (spilled (maps_on G device) b bytes)) image))
    pub only : (failure ≡ NoBlock) ⊎ (failure ≡ CannotRead) ⊎ (failure ≡ NoMemory) ⊎ (failure ≡ NotAScreen) ⊎ (failure ≡ Device)
    pub faults : TellsFault G failure begun after
    pub no_block : failure ≡ NoBlock → blocks_on G device ≤ b
    pub missing : blocks_on G device ≤ b → failure ≡ NoBlock
    pub cannot : failure ≡ CannotRead → unread
    pub begins : BeginsAtMost G begun after 7 4
    pub reads : ReadsAtMost G begun after 4

  -- `import`: only a failed save made a call of the device. A stop at any moment of it leaves the blocks as they were, or with all those
  -- that the files say, of which nothing is refused. Else it is told of the texts, and that one can't be read only where it wasn't had.
  pub record ImportFails (form : Form) (first : ℕ) (are_texts : List (List ℕ) → Type 0) (unread : Type 0) (failure : Failure) (device begun after : D) : Type 0 where
    pub unsaved : failure ≢ Device → after ≡ begun
    pub stops : IsTrue (suits G device) → StopsLeave G begun after (λ image. MeansOn G device (meant_by G device) image
        ⊎ ((files : List (List ℕ)) × are_texts files × AreSound form (blocks_on G device - first) files
        × MeansOn G device (latest (spilled_from (maps_on G device) first (as_blocks (said_all form files)))) image))
    pub only : (failure ≡ Device) ⊎ IsOfTexts failure
    pub faults : TellsFault G failure begun after
    pub cannot : failure ≡ CannotRead → unread
    pub begins : BeginsAtMost G begun after (4 * (blocks_on G device - first) + 3) 4
    pub reads : ReadsAtMost G begun after (4 * (blocks_on G device - first))

  -- ---- of an image that is opened for reading alone

  -- The image was only read: nothing was written or synced, so a stop at any moment leaves what one could leave before. It was
  -- refused for this, or a call of the device failed, or what was found couldn't be told.
  pub record ReadingFails (untold : Failure → Type 0) (refusal : (sectors : ℕ) → Image → Option Failure) (failure : Failure)
      (device after : D) : Type 0 where
    pub reads : OnlyRead G device after
    pub faults : TellsFault G failure device after
    pub told : IsTrue (G.keeps_model device) → (failure ≡ Device) ⊎ untold failure
        ⊎ (refusal (G.sector_count device) (G.disk device).content ≡ Some failure)

  -- `check --blocks`: the image is refused as an opening refuses it.
  abbrev pub LookingFails : Failure → (device after : D) → Type 0
  LookingFails = ReadingFails IsUntold (λ sectors image. option_map of_image (image_refusal sectors image))

  -- `check`, of a look at an image: of a damaged one of layout 3 each damaged block was told, and else nothing was printed, but where
  -- the output failed.
  pub record LookFails (written written' : Option (List ℕ)) (failure : Failure) (device after : D) : Type 0 where
    pub looks : LookingFails failure device after
    pub damaged : IsTrue (G.keeps_model device) → layout_by_size (G.sector_count device) ≡ Three → failure ≡ Damaged
        → Appends written written' (damage_report (G.sector_count device) (G.disk device).content)
    pub unprinted : failure ≢ CannotWrite → failure ≢ Damaged → written' ≡ written
    pub silent : layout_by_size (G.sector_count device) ≡ Two → failure ≢ CannotWrite → written' ≡ written

  -- What is told where a read of it failed: the sectors that can't be read; or they couldn't be told, and the failure is that.
  abbrev pub UnreadTold : (written written' : Option (List ℕ)) → Failure → (device after : D) → Type 0
  UnreadTold written written' failure device after =
      ((failure ≡ Device) × TellsUnread G written written' device after) ⊎ (OnlyRead G device after × IsUntold failure)

  -- What is told more of an image of which a look failed: nothing, or what a failed read asks for.
  abbrev pub MoreTold : (written written' : Option (List ℕ)) → (first failure : Failure) → (device after : D) → Type 0
  MoreTold written written' first failure device after =
      ((first ≢ Device) × (failure ≡ first) × (after ≡ device) × (written' ≡ written))
      ⊎ ((first ≡ Device) × UnreadTold written written' failure device after)

  -- `check`: a look failed, and not by a call of the device; or a call failed, and then the image was read through.
  abbrev pub CheckFails : (written written' : Option (List ℕ)) → Failure → (device after : D) → Type 0
  CheckFails written written' failure device after =
      ((failure ≢ Device) × LookFails written written' failure device after)
      ⊎ ((looked : D) × (between : Option (List ℕ)) × LookFails written between Device device looked × UnreadTold between written' failure looked after)

  -- The image was only read, and a read failed.
  pub record ReadFailed (device after : D) : Type 0 where
    pub reads : OnlyRead G device after
    pub failed : CallFailed G device after

  -- `list`: the image is refused, the block isn't there, or it couldn't be printed, and no read failed; or one failed, and then the block
  -- wasn't printed from where it stands.
  abbrev pub ListShowingFails : (b : ℕ) → Failure → (device after : D) → Type 0
  ListShowingFails b failure device after = ((failure ≢ Device) × ReadingFails IsUnprinted (block_refusal b) failure device after)
      ⊎ AfterFault ReadFailed (StandingFails b b failure) device after

  -- `export`: the image is refused, a block isn't there, or they couldn't be printed; or a read failed, but only once the image was found
  -- not to be refused.
  pub record FoundFails (refusal : (sectors : ℕ) → Image → Option Failure) (failure : Failure) (device after : D) : Type 0 where
    pub reading : ReadingFails IsUnprinted refusal failure device after
    pub found : IsTrue (G.keeps_model device) → failure ≡ Device → image_refusal (G.sector_count device) (G.disk device).content ≡ None

  -- The same, or a read failed before that, and then the blocks from the first to the last weren't printed from where they stand.
  abbrev pub ShowingFails : (refusal : (sectors : ℕ) → Image → Option Failure) (first last : ℕ) → Failure → (device after : D) → Type 0
  ShowingFails refusal first last failure device after = FoundFails refusal failure device after
      ⊎ AfterFault ReadFailed (StandingFails first last failure) device after

  -- `diff`: the same of two images, of which the first is refused before the second one.
  pub record DiffFails (failure : Failure) (old old' new new' : D) : Type 0 where
    pub old_reads : OnlyRead G old old'
    pub new_reads : OnlyRead G new new'
    pub failed : failure ≡ Device → OneFailed G old old' new new'
    pub well : failure ≢ Device → WentWell G G old old' new new'
    pub told : IsTrue (G.keeps_model old) → IsTrue (G.keeps_model new) → (failure ≡ Device) ⊎ IsUntold failure
        ⊎ (option_map of_image (refusal_of_either G old new) ≡ Some failure)

  -- `diff`: neither file was opened, or the first alone, of which no call was made, or both were only read.
  abbrev pub DiffFailed : {A : Type 0} (first second : D → Type 0) → Failure → Left A D → Type 0
  DiffFailed first second failure left = FailsOn files.Looked first (λ failure device after. IsUnopened failure × (after ≡ device)) failure left
      ⊎ ((old : D) × first old × (new : D) × second new × (old' : D) × (new' : D) × (left ≡ files.Compared old' new')
      × DiffFails failure old old' new new')

  -- ---- of an image that is made

  -- `new`: a call of the device failed, and a stop at any moment leaves what one of a format by layout 2 may leave.
  pub record MakingFails (n : ℕ) (failure : Failure) (device after : D) : Type 0 where
    pub goes : Becomes G device after
    pub told : failure ≡ Device
    pub failed : CallFailed G device after
    pub stops : IsTrue (G.keeps_sectors device) → StopsLeave G device after (older_making.FormatLeaves n (G.disk device))
    pub begins : BeginsAtMost G device after (2 * n + 4) 4
    pub reads : ReadsAtMost G device after 1

  -- the same by layout 3
  pub record NewerMakingFails (n : ℕ) (failure : Failure) (device after : D) : Type 0 where
    pub goes : Becomes G device after
    pub told : failure ≡ Device
    pub failed : CallFailed G device after
    pub stops : IsTrue (G.keeps_model device) → StopsLeave G device after (newer_making.FormatLeaves n (G.disk device))
    pub begins : BeginsAtMost G device after (4 * n + 5) 4
    pub reads : ReadsAtMost G device after 1

  -- The file wasn't made, and nothing is left; or it was made and not finished, and no call of it was made after that.
  abbrev pub NotFinished : {E : Type 0} (begun : D → Type 0) → Failure → Left D E → Type 0
  NotFinished begun failure left = ((left ≡ files.Nothing) × IsUnmade failure)
      ⊎ ((failure ≡ CannotOpen) × (device : D) × begun device × (left ≡ files.Made device))

  -- The same by this layout.
  abbrev pub MakingFailsBy : Layout → (n : ℕ) → Failure → (device after : D) → Type 0
  MakingFailsBy Two = MakingFails
  MakingFailsBy Three = NewerMakingFails

  -- The file wasn't made, or not finished, or the image on it wasn't made by this layout.
  abbrev pub NewFailed : {E : Type 0} (made : ℕ → D → Type 0) (begun : D → Type 0) → ℕ → Layout → Failure → Left D E → Type 0
  NewFailed made begun n layout failure left = NotFinished begun failure left
      ⊎ DoneOn G files.Made (made (sectors_by layout n)) (MakingFailsBy layout n failure) left

  -- `upgrade` to layout 2: a stop at any moment of it leaves of the old image one that means the same, and of the new one no
  -- image, or the whole one, or what could be left before.
  pub record UpgradeFails (failure : Failure) (source source' device after : D) : Type 0 where
    pub reads : Becomes G source source'
    pub old : IsTrue (G.keeps_sectors source) → StopsLeave G source source' (OldLeaves (older.blocks_on G source) (G.disk source))
    pub goes : Becomes G device after
    pub stops : IsTrue (G.keeps_sectors source) → IsTrue (G.keeps_sectors device) → StopsLeave G device after
        (older_making.MakingLeaves (older.blocks_on G source) (older.meant_by G source) (G.disk device))
    pub tells : TellsRefusal G G (G.keeps_sectors source)
        (older_upgrade.upgrade_refusal (G.sector_count source) (G.sector_count device) ((G.disk source).content 0)) failure source source' device after

-- `upgrade` to this layout.
abbrev pub UpgradeFailsBy : {D : Type 0} (G : Ghosts D) → Layout → Failure → (source source' device after : D) → Type 0
UpgradeFailsBy G Two = UpgradeFails G
UpgradeFailsBy G Three = NewerUpgradeFails G G

-- `list`, `export`: what is left of an image that was opened for writing too, and of one that was opened for reading alone.
module _ {D : Type 0} (G : Ghosts D) where
  abbrev pub NotPrinted : Printing → Failure → (device after : D) → Type 0
  NotPrinted (ListBlock b) = FailsToPrint G b b (ListFails G b)
  NotPrinted (Export first last form) = FailsToPrint G first last (ExportFails G first last)

  abbrev pub NotShown : Printing → Failure → (device after : D) → Type 0
  NotShown (ListBlock b) = ListShowingFails G b
  NotShown (Export first last form) = ShowingFails G (blocks_refusal first last) first last

  -- `check`, `check --blocks`: what is left of an image that was opened for reading alone.
  abbrev pub NotTold : Looking → (written written' : Option (List ℕ)) → Failure → (device after : D) → Type 0
  NotTold Check written written' = CheckFails G written written'
  NotTold Digests written written' = LookingFails G

-- Where nothing was printed: but where the output failed, or else what was found was told in part.
abbrev pub PrintsNone : Printing → Failure → Type 0
PrintsNone (ListBlock b) failure = failure ≢ CannotWrite
PrintsNone (Export first last form) failure = (failure ≢ Device) × (failure ≢ CannotWrite)

abbrev pub TellsNone : Looking → Failure → Type 0
TellsNone Check failure = (failure ≢ Damaged) × (failure ≢ Device) × (failure ≢ CannotWrite)
TellsNone Digests failure = failure ≢ CannotWrite

module _ {D E : Type 0} (G : Ghosts D) (L : Ghosts E) where
  -- Blocks weren't printed: no file of their image was opened, or the one for writing was, or the one for reading alone.
  abbrev pub PrintFailed : (opened : D → Type 0) (looked : E → Type 0) → Printing → Failure → Left D E → Type 0
  PrintFailed opened looked asked failure left = FailsOn G files.Opened opened (NotPrinted G asked) failure left
      ⊎ DoneOn L files.Looked looked (NotShown L asked failure) left

-- ---- of a script, which is read before its image is opened

-- A file of the script can't be read, or there was no memory for what it says: no image was opened, nothing of the input was read, and
-- nothing was printed.
pub record NotLed {A B : Type 0} (cannot : Type 0) (left left' written written' : Option (List ℕ)) (failure : Failure) (ends : Left A B) : Type 0 where
  pub unopened : ends ≡ files.Nothing
  pub told : ((failure ≡ CannotRead) × cannot) ⊎ (failure ≡ NoMemory)
  pub unread : left' ≡ left
  pub unwritten : written' ≡ written

module _ {D : Type 0} (G : Ghosts D) where
  -- A session of a script failed: the script wasn't read, or with what it says the image wasn't opened, or P says what was done then.
  abbrev pub ScriptFails : {E : Type 0} (opened : D → Type 0) (is_text : (path text : List ℕ) → Type 0) (is_unread : (path : List ℕ) → Type 0)
      (script : Script) (P : (led left' written written' : Option (List ℕ)) → Failure → (device begun after : D) → Type 0)
      (left left' written written' : Option (List ℕ)) → Failure → Left D E → Type 0
  ScriptFails opened is_text is_unread script P left left' written written' failure ends =
      NotLed (OneIsUnread is_unread script.files.items) left left' written written' failure ends
      ⊎ ((led : Option (List ℕ)) × IsLed is_text (load_line script.load) script.files.items script.goes_on left led
      × FailsOn G files.Opened opened (FailsAfter G (P led left' written written')) failure ends)

  -- No session of it began.
  abbrev pub ScriptUnbegun : {E : Type 0} (opened : D → Type 0) (is_text : (path text : List ℕ) → Type 0) (is_unread : (path : List ℕ) → Type 0)
      (script : Script) (left left' written written' : Option (List ℕ)) → Failure → Left D E → Type 0
  ScriptUnbegun opened is_text is_unread script = ScriptFails opened is_text is_unread script (NotBegun G)

  -- `run`: no session of it began, or one didn't come to the end of its input.
  abbrev pub ScriptFailed : {E : Type 0} (opened : D → Type 0) (is_text : (path text : List ℕ) → Type 0) (is_unread : (path : List ℕ) → Type 0)
      (steps : ℕ) (script : Script) (left left' written written' : Option (List ℕ)) → Failure → Left D E → Type 0
  ScriptFailed opened is_text is_unread steps script = ScriptFails opened is_text is_unread script (RunFails G (allowed_by steps script) (strictness_of script))

-- ---- of an image that is made of another one: G is of those that are copied or salvaged, H of those that are made

module _ {B : Type 0} (H : Ghosts B) where
  -- `salvage` of an image on so many sectors, of which this was had: it is made in part, or whole where that alone couldn't be told. What
  -- was had lies in memory, and no call of the old device is made.
  pub record HadInPart (sectors : ℕ) (seen : Image) (failure : Failure) (device after : B) : Type 0 where
    pub goes : Becomes H device after
    pub stops : IsTrue (suits H device) → StopsLeave H device after
        (MakingLeaves (H.sector_count device) (salvaged_blocks (H.sector_count device) seen) (H.disk device))
    pub whole : IsTrue (suits H device) → IsUntold failure
        → LeavesBlocks H after (salvaged_blocks (H.sector_count device) seen)
    pub begins : BeginsAtMost H device after (writes_to_make (H.sector_count device)) 4
    pub looks : ReadsAtMost H device after 1
    pub failed : failure ≡ Device → CallFailed H device after
    pub well : failure ≢ Device → H.failures after ≡ H.failures device
    pub told : (failure ≡ Device) ⊎ IsUntold failure ⊎ (Some failure ≡ option_map of_upgrade (salvage_refusal sectors (H.sector_count device)))

  -- The same of what was had, under the best record for it.
  abbrev pub MendedInPart : (sectors : ℕ) (had : Image) → Failure → (device after : B) → Type 0
  MendedInPart sectors had failure device after = (seen : Image) × IsMendedBySize sectors had seen × HadInPart sectors seen failure device after

  -- Or there was no memory for what is told, and nothing was made.
  abbrev pub HadFails : (sectors : ℕ) (had : Image) → Failure → (device after : B) → Type 0
  HadFails sectors had failure device after = ((failure ≡ NoMemory) × (after ≡ device)) ⊎ MendedInPart sectors had failure device after

module _ {A B : Type 0} (G : Ghosts A) (H : Ghosts B) where
  -- An image of these blocks was made in part: nothing of the old one was written or synced, and a stop at any moment leaves of the
  -- new one no image, or the whole one, or what could be left before, by layout 3 but for the other sectors in the label's unit.
  pub record MakesInPart (blocks : List (List ℕ)) (source source' : A) (device after : B) : Type 0 where
    pub old : OnlyRead G source source'
    pub goes : Becomes H device after
    pub stops : IsTrue (G.keeps_model source) → IsTrue (suits H device)
        → StopsLeave H device after (MakingLeaves (H.sector_count device) blocks (H.disk device))
    pub begins : BeginsAtMost H device after (writes_to_make (H.sector_count device)) 4
    pub looks : ReadsAtMost H device after 1

  -- `copy`: of the blocks of the old image
  pub record CopyFails (failure : Failure) (source source' : A) (device after : B) : Type 0 where
    pub made : MakesInPart (copied_blocks (G.sector_count source) (H.sector_count device) (G.disk source).content) source source' device after
    pub tells : TellsRefusal G H (G.keeps_model source)
        (copy_refusal (G.sector_count source) (H.sector_count device) (G.disk source).content) failure source source' device after

  -- `salvage`: of those that could be had, all of which are there where that alone couldn't be told
  pub record SalvageFails (failure : Failure) (source source' : A) (device after : B) : Type 0 where
    pub made : MakesInPart (salvaged_blocks (H.sector_count device) (G.disk source).content) source source' device after
    pub whole : IsTrue (G.keeps_model source) → IsTrue (suits H device) → IsUntold failure
        → LeavesBlocks H after (salvaged_blocks (H.sector_count device) (G.disk source).content)
    pub failed : failure ≡ Device → CallFailed G source source' ⊎ CallFailed H device after
    pub well : failure ≢ Device → WentWell G H source source' device after
    pub told : (failure ≡ Device) ⊎ IsUntold failure
        ⊎ (Some failure ≡ option_map of_upgrade (salvage_refusal (G.sector_count source) (H.sector_count device)))

  -- `salvage` of an image that was read through: from its device, or from what was had.
  abbrev pub ReadFails : (sectors : ℕ) (had unread : List ℕ) → Failure → (through source' : A) (device after : B) → Type 0
  ReadFails sectors had unread failure through source' device after =
      ((unread ≡ []) × (¬ HasLostRecord sectors (image_of had)) × SalvageFails failure through source' device after)
      ⊎ (((unread ≢ []) ⊎ HasLostRecord sectors (image_of had)) × (source' ≡ through) × HadFails H sectors (image_of had) failure device after)

  -- There was no memory for what is read, and the new device is as it was; or the image was read through, and then salvaged in part.
  abbrev pub SalvageThroughFails : Failure → (source source' : A) (device after : B) → Type 0
  SalvageThroughFails failure source source' device after =
      (OnlyRead G source source' × (failure ≡ NoMemory) × (after ≡ device))
      ⊎ ((through : A) × (had : List ℕ) × (unread : List ℕ) × ReadsThrough G had unread source through
      × ReadFails (G.sector_count source) had unread failure through source' device after)
