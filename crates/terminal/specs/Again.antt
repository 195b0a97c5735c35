-- One command after another: what the one left, when it ended or when it was stopped, is what the next one opens.
use Rattle.std.specs.Prelude.{◌≡◌, ◌⊎◌, ℕ, ◌+◌, ◌-◌, ◌≤◌, Bool, IsTrue, List, Option, Some, false}
use Rattle.std.specs.Borrow.{Bor}
use Rattle.std.specs.Io.KnownBytes.{Appends}
use Rattle.sector_disk.specs.Disk.{Image, MayLeave}
use Rattle.sector_disk.specs.declared.device.SectorDevice.{Ghosts}
use Rattle.journal.specs.Layout as older
use Rattle.journal.specs.Layout.{fewest_blocks, most_blocks}
use Rattle.journal.specs.Maps.{fresh, latest, spilled}
use Rattle.journal.specs.PageLayout as newer
use Rattle.journal.specs.Suits.{suits}
use Rattle.block_words.specs.Kept.{KeptFrom}
use Rattle.recovery.specs.Formatted.{blank_blocks}
use Rattle.stores.specs.Images.{HasMeaning}
use Rattle.command_line.specs.declared.orders.Form.{Form}
use Rattle.command_line.specs.declared.orders.Layout.{Layout}
use Rattle.command_line.specs.declared.orders.Layout.TheVariants.{Two, Three}
use Rattle.command_line.specs.declared.orders.Script.{Script}
use Rattle.terminal.specs.Done.{Comes, Exports, ImportsBlocks, LeavesBlocks, MakesBlank, PutsBlock, Recovers, RunsFrom, RunsSession, maps_on, meant_by, Allowed, new_system}
use Rattle.terminal.specs.Failed.{BreaksSession, OpensThen}
use Rattle.terminal.specs.Findings.{said_all}
use Rattle.terminal.specs.Layout3.{MakesNewer}
use Rattle.terminal.specs.Screen.{screen_of}
use Rattle.sessions.specs.declared.strictness.Strictness.{Strictness}
use Rattle.terminal.specs.Scripts.{IsLed, RunsScript, StopsScript, load_line, allowed_by}
use Rattle.terminal.specs.Texts.{AreTexts}
use Rattle.terminal.specs.Transfer.{as_blocks, exports, spilled_from}
use Rattle.terminal.specs.declared.failure.Failure.{Failure}

-- these blocks, and in them from the first one on those that some files say
abbrev pub with_files : List (List ℕ) → (form : Form) (first : ℕ) (files : List (List ℕ)) → List (List ℕ)
with_files blocks form first files = latest (spilled_from (fresh blocks) first (as_blocks (said_all form files)))

module _ {D : Type 0} (G : Ghosts D) where
  -- ---- what is found

  -- A device is found again that a command left, or that it had when it was stopped at some moment since that time: it has as many
  -- sectors, keeps its model, and whatever a stop may leave of it now, a stop at such a moment may have left.
  pub record IsFoundAgain (since : ℕ) (left next : D) : Type 0 where
    pub sectors : G.sector_count next ≡ G.sector_count left
    pub model : G.keeps_model next ≡ G.keeps_model left
    pub units : G.keeps_sectors next ≡ G.keeps_sectors left
    pub stopped : (image : Image) → MayLeave (G.disk next) image → G.left_since left since image

  -- It is found as the command left it when it ended.
  abbrev pub IsFoundAsItEnded : (left next : D) → Type 0
  IsFoundAsItEnded left next = IsFoundAgain (G.time left) left next

  -- Each device that an opening gives is one that is found again. Of a system this is assumed, and not proved.
  abbrev pub GivesAgain : (opened : D → Type 0) (since : ℕ) (left : D) → Type 0
  GivesAgain opened since left = (next : D) → opened next → IsFoundAgain since left next

  -- The image on the device, if it has a meaning, means these blocks.
  abbrev pub GivesBlocks : D → List (List ℕ) → Type 0
  GivesBlocks next blocks = HasMeaning (G.sector_count next) (G.disk next).content → meant_by G next ≡ blocks

  -- ---- what a command does over blocks that it finds

  -- Each `run` over it that comes to the end of its input is a session over these blocks.
  abbrev pub RunsOver : D → List (List ℕ) → Type 0
  RunsOver next blocks = (allowed : Allowed) (left left' written written' : Option (List ℕ)) (after : D)
      → RunsSession G allowed left left' written written' next after
      → (begun : D) × RunsFrom G (new_system allowed (fresh blocks)) left left' written written' begun after

  -- Each `export` of it prints these blocks.
  abbrev pub ExportsFrom : D → List (List ℕ) → Type 0
  ExportsFrom next blocks = (form : Form) (first last : ℕ) (written written' : Option (List ℕ)) (after : D)
      → Exports G form first last written written' next after
      → Appends written written' (exports form (fresh blocks) first (last + 1 - first))

  -- Each `import` into it leaves these blocks, with those that its files say.
  abbrev pub ImportsOver : (is_text : (path text : List ℕ) → Type 0) → D → List (List ℕ) → Type 0
  ImportsOver is_text next blocks = (form : Form) (first : ℕ) (sources : List (Bor (List ℕ))) (after : D)
      (imports : ImportsBlocks G form first (AreTexts is_text sources) next after)
      → LeavesBlocks G after (with_files blocks form first imports.files)

  -- `new`: an image of n blank blocks was made on a device of its size, by this layout.
  abbrev pub MakesBy : Layout → (n : ℕ) (device after : D) → Type 0
  MakesBy Two n device after = (G.sector_count device ≡ older.sectors_for n) × MakesBlank G n device after
  MakesBy Three n device after = (G.sector_count device ≡ newer.sectors_for n) × MakesNewer G n device after

  -- `run` that came to the end of its input: what each line was allowed, the input and the output before it and after it, and its session.
  pub record Run (device after : D) : Type 0 where
    pub allowed : Allowed
    pub input : Option (List ℕ)
    pub input_after : Option (List ℕ)
    pub output : Option (List ℕ)
    pub output_after : Option (List ℕ)
    pub session : RunsSession G allowed input input_after output output_after device after

  -- ---- the laws

  -- What is found is what a stop of the command at some moment may leave: so each clause on its stops says what is found.
  abbrev pub StoppedIsFound : Type 0
  StoppedIsFound = (since : ℕ) (left next : D) → IsFoundAgain since left next → IsTrue (suits G left)
      → G.left_since left since (G.disk next).content

  -- The blocks that a command left when it ended are those that are found.
  abbrev pub EndedIsFound : Type 0
  EndedIsFound = (left next : D) (blocks : List (List ℕ)) → LeavesBlocks G left blocks → IsFoundAsItEnded left next → IsTrue (suits G left)
      → GivesBlocks next blocks × LeavesBlocks G next blocks

  -- A command that was stopped within its recovery: the blocks of which an image was left before are those that are found.
  abbrev pub StoppedRecovery : Type 0
  StoppedRecovery = (device begun next : D) (blocks : List (List ℕ)) → LeavesBlocks G device blocks → Recovers G device begun
      → IsFoundAgain (G.time device) begun next → IsTrue (suits G device) → GivesBlocks next blocks

  -- `new`, and then `import`: the import goes into blank blocks.
  abbrev pub NewThenImport : (is_text : (path text : List ℕ) → Type 0) → Type 0
  NewThenImport is_text = (layout : Layout) (n : ℕ) (device after next : D) → fewest_blocks ≤ n → n ≤ most_blocks → MakesBy layout n device after
      → IsFoundAsItEnded after next → IsTrue (suits G device) → ImportsOver is_text next (blank_blocks n)

  -- `import`, and then `run`: the session is one over the blocks as they were, with those that the files say.
  abbrev pub ImportThenRun : (is_text : (path text : List ℕ) → Type 0) → Type 0
  ImportThenRun is_text = (form : Form) (first : ℕ) (sources : List (Bor (List ℕ))) (device after next : D)
      (imports : ImportsBlocks G form first (AreTexts is_text sources) device after)
      → IsFoundAsItEnded after next → IsTrue (suits G device)
      → RunsOver next (with_files (meant_by G device) form first imports.files)

  -- `import` that was stopped at some moment after its recovery, and then `run`: over these blocks, or over those as they were.
  abbrev pub StoppedImportThenRun : (is_text : (path text : List ℕ) → Type 0) → Type 0
  StoppedImportThenRun is_text = (form : Form) (first : ℕ) (sources : List (Bor (List ℕ))) (device after next : D)
      (imports : ImportsBlocks G form first (AreTexts is_text sources) device after)
      → IsFoundAgain (G.time imports.begun) after next → IsTrue (suits G device)
      → RunsOver next (meant_by G device) ⊎ RunsOver next (with_files (meant_by G device) form first imports.files)

  -- The same of one that was stopped at any moment, in its recovery or after it, where a stop before left the blocks of its image.
  abbrev pub AnyMomentImportThenRun : (is_text : (path text : List ℕ) → Type 0) → Type 0
  AnyMomentImportThenRun is_text = (form : Form) (first : ℕ) (sources : List (Bor (List ℕ))) (device after next : D)
      (imports : ImportsBlocks G form first (AreTexts is_text sources) device after)
      → LeavesBlocks G device (meant_by G device) → IsFoundAgain (G.time device) after next → IsTrue (suits G device)
      → RunsOver next (meant_by G device) ⊎ RunsOver next (with_files (meant_by G device) form first imports.files)

  -- `put`, and then `run`: the session is one over the blocks as they were, with the lines of the text in that one.
  abbrev pub PutThenRun : (is_text : (path text : List ℕ) → Type 0) → Type 0
  PutThenRun is_text = (b : ℕ) (path : List ℕ) (device after next : D) → PutsBlock G b (is_text path) device after
      → IsFoundAsItEnded after next → IsTrue (suits G device)
      → (text : List ℕ) × is_text path text × (bytes : List ℕ) × (screen_of text ≡ Some bytes)
      × RunsOver next (latest (spilled (maps_on G device) b bytes))

  -- `put` that was stopped at some moment after its recovery, and then `run`: over these blocks, or over those as they were.
  abbrev pub StoppedPutThenRun : (is_text : (path text : List ℕ) → Type 0) → Type 0
  StoppedPutThenRun is_text = (b : ℕ) (path : List ℕ) (device after next : D) (put : PutsBlock G b (is_text path) device after)
      → IsFoundAgain (G.time put.begun) after next → IsTrue (suits G device)
      → (text : List ℕ) × is_text path text × (bytes : List ℕ) × (screen_of text ≡ Some bytes)
      × (RunsOver next (meant_by G device) ⊎ RunsOver next (latest (spilled (maps_on G device) b bytes)))

  -- The same of one that was stopped at any moment, in its recovery or after it, where a stop before left the blocks of its image.
  abbrev pub AnyMomentPutThenRun : (is_text : (path text : List ℕ) → Type 0) → Type 0
  AnyMomentPutThenRun is_text = (b : ℕ) (path : List ℕ) (device after next : D) → PutsBlock G b (is_text path) device after
      → LeavesBlocks G device (meant_by G device) → IsFoundAgain (G.time device) after next → IsTrue (suits G device)
      → (text : List ℕ) × is_text path text × (bytes : List ℕ) × (screen_of text ≡ Some bytes)
      × (RunsOver next (meant_by G device) ⊎ RunsOver next (latest (spilled (maps_on G device) b bytes)))

  -- `run`, and then `run`: the second session is one over the blocks that the first one saved last, where no fault closed its store.
  abbrev pub RunThenRun : Type 0
  RunThenRun = (allowed : Allowed) (left left' written written' : Option (List ℕ)) (device after next : D)
      (ran : RunsSession G allowed left left' written written' device after) → IsFoundAsItEnded after next → (keeps : IsTrue (suits G device))
      → (ran.runs keeps).closing.world.maps.closed ≡ false → RunsOver next (ran.runs keeps).closing.world.maps.saved

  -- `run` that was stopped at some moment of its session, and then `run`: the second session is one over the blocks of one of the
  -- saves that the first one began, or of those as they were before them; and once a save had returned, over none from before it.
  abbrev pub StoppedRunThenRun : Type 0
  StoppedRunThenRun = (allowed : Allowed) (left left' written written' : Option (List ℕ)) (device after : D)
      (ran : RunsSession G allowed left left' written written' device after) (keeps : IsTrue (suits G device))
      → KeptFrom RunsOver (λ since next. IsFoundAgain since after next) (G.time after)
      (meant_by G device) (ran.runs keeps).made (G.time ran.begun)

  -- The same of one that was stopped at any moment, in its recovery or after it, where a stop before left the blocks of its image.
  abbrev pub AnyMomentThenRun : Type 0
  AnyMomentThenRun = (allowed : Allowed) (left left' written written' : Option (List ℕ)) (device after : D)
      (ran : RunsSession G allowed left left' written written' device after) (keeps : IsTrue (suits G device))
      → LeavesBlocks G device (meant_by G device)
      → KeptFrom RunsOver (λ since next. IsFoundAgain since after next) (G.time after)
      (meant_by G device) (ran.runs keeps).made (G.time device)

  -- `run` that broke off, since the input or the output failed, and then `run`: over the blocks that were saved last, where no fault
  -- closed the store; and if it was stopped before, the same as of one that came to the end of its input.
  abbrev pub BrokenRunThenRun : Type 0
  BrokenRunThenRun = (allowed : Allowed) (strictness : Strictness) (left left' written written' : Option (List ℕ)) (failure : Failure) (device after : D)
      (broke : OpensThen G (BreaksSession G allowed strictness left left' written written' failure) device after) (keeps : IsTrue (suits G device))
      → ((next : D) → IsFoundAsItEnded after next → (broke.done.breaks keeps).closing.world.maps.closed ≡ false
      → RunsOver next (broke.done.breaks keeps).closing.world.maps.saved)
      × KeptFrom RunsOver (λ since next. IsFoundAgain since after next) (G.time after)
      (meant_by G device) (broke.done.breaks keeps).made (G.time broke.begun)

  -- `run` that a line ended which failed, since it was strict or that line loaded its block, and then `run`: the same.
  abbrev pub FaultThenRun : (is_text : (path text : List ℕ) → Type 0) → Type 0
  FaultThenRun is_text = (steps : ℕ) (script : Script) (left left' written written' : Option (List ℕ)) (device after : D)
      (ran : StopsScript G is_text steps script left left' written written' device after) (keeps : IsTrue (suits G device))
      → ((next : D) → IsFoundAsItEnded after next → (ran.stops keeps).closing.world.maps.closed ≡ false
      → RunsOver next (ran.stops keeps).closing.world.maps.saved)
      × KeptFrom RunsOver (λ since next. IsFoundAgain since after next) (G.time after)
      (meant_by G device) (ran.stops keeps).made (G.time ran.begun)

  -- `run`, and then `export`: what is printed are the blocks that the session saved last, where no fault closed its store.
  abbrev pub RunThenExport : Type 0
  RunThenExport = (allowed : Allowed) (left left' written written' : Option (List ℕ)) (device after next : D)
      (ran : RunsSession G allowed left left' written written' device after) → IsFoundAsItEnded after next → (keeps : IsTrue (suits G device))
      → (ran.runs keeps).closing.world.maps.closed ≡ false → ExportsFrom next (ran.runs keeps).closing.world.maps.saved

  -- `new`, `import`, `run`, a `run` that was stopped at any moment, `run`, `export`, each of what the one before left: the first session
  -- is one over blank blocks with those that the files say; the second one is over the blocks that the first one saved last; the third
  -- one is over these, or over those of a save of the second one, none from before a save that had returned; and what is printed are the
  -- blocks that the third one saved last. So it is where no fault closed the store of the first session, nor that of the third one.
  abbrev pub Chain : (is_text : (path text : List ℕ) → Type 0) → Type 0
  Chain is_text = (layout : Layout) (n first : ℕ) (sources : List (Bor (List ℕ))) (form : Form) (file made image filled opened saved again stopped later done last : D)
      → fewest_blocks ≤ n → n ≤ most_blocks → MakesBy layout n file made → IsTrue (suits G file)
      → IsFoundAsItEnded made image → (imports : ImportsBlocks G form first (AreTexts is_text sources) image filled)
      → IsFoundAsItEnded filled opened → (one : Run opened saved) (keeps : IsTrue (suits G opened))
      → (one.session.runs keeps).closing.world.maps.closed ≡ false
      → IsFoundAsItEnded saved again → (two : Run again stopped) (keeps' : IsTrue (suits G again))
      → IsFoundAgain (G.time again) stopped later → (three : Run later done) (keeps'' : IsTrue (suits G later))
      → (three.session.runs keeps'').closing.world.maps.closed ≡ false → IsFoundAsItEnded done last
      → RunsOver opened (with_files (blank_blocks n) form first imports.files)
      × RunsOver again (one.session.runs keeps).closing.world.maps.saved
      × KeptFrom RunsOver (λ since next. IsFoundAgain since stopped next) (G.time stopped)
      (one.session.runs keeps).closing.world.maps.saved (two.session.runs keeps').made (G.time again)
      × ExportsFrom last (three.session.runs keeps'').closing.world.maps.saved

  -- ---- orders on what an opening gave

  -- `run` of what a script asks for was a session over these blocks.
  abbrev pub RanOver : (is_text : (path text : List ℕ) → Type 0) (steps : ℕ) (script : Script) (left left' written written' : Option (List ℕ))
      → List (List ℕ) → (after : D) → Type 0
  RanOver is_text steps script left left' written written' blocks after = (led : Option (List ℕ)) × (begun : D)
      × IsLed is_text (load_line script.load) script.files.items script.goes_on left led
      × RunsFrom G (new_system (allowed_by steps script) (fresh blocks)) led left' written written' begun after

  -- `put` was done on a device that an opening gave, it is given again as it was left, and then `run` was done on what an opening gave:
  -- over the blocks as they were, with the lines of the text in that one. `is_text` is of the texts of `put`, `is_text'` of those of `run`.
  abbrev pub PutThenRunOn : (opened opened' : D → Type 0) (is_text is_text' : (path text : List ℕ) → Type 0) → Type 0
  PutThenRunOn opened opened' is_text is_text' = (b steps : ℕ) (path : List ℕ) (script : Script)
      (left left' written written' : Option (List ℕ)) (after last : D)
      (put : Comes G opened (PutsBlock G b (is_text path)) after) → GivesAgain opened' (G.time after) after
      → Comes G opened' (RunsScript G is_text' steps script left left' written written') last → IsTrue (suits G put.0)
      → (text : List ℕ) × is_text path text × (bytes : List ℕ) × (screen_of text ≡ Some bytes)
      × RanOver is_text' steps script left left' written written' (latest (spilled (maps_on G put.0) b bytes)) last

  -- The same of `run`, and then `run`: over the blocks that the first session saved last, where no fault closed its store.
  abbrev pub RunThenRunOn : (opened opened' : D → Type 0) (is_text is_text' : (path text : List ℕ) → Type 0) → Type 0
  RunThenRunOn opened opened' is_text is_text' = (first_steps steps : ℕ) (first_script script : Script)
      (unread unread' shown shown' left left' written written' : Option (List ℕ)) (after last : D)
      (ran : Comes G opened (RunsScript G is_text first_steps first_script unread unread' shown shown') after) → GivesAgain opened' (G.time after) after
      → Comes G opened' (RunsScript G is_text' steps script left left' written written') last → (keeps : IsTrue (suits G ran.0))
      → (ran.2.session.runs keeps).closing.world.maps.closed ≡ false
      → RanOver is_text' steps script left left' written written' (ran.2.session.runs keeps).closing.world.maps.saved last
