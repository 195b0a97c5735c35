-- Sessions over an image: of the input, or of files, and behind a block that is loaded.
use Rattle.std.specs.Prelude.{◌≡◌, ◌≢◌, ◌==◌, ◌&&◌, ℕ, Bool, false, true, not, is_none, IfOk, IsTrue, List, [], ◌∷◌, ◌++◌, codes, length, Option, Some, None, Result}
use Rattle.std.specs.Borrow.{Bor}
use Rattle.std.specs.Fmt.{decimal}
use Rattle.std.specs.Io.BufRead.{strip_last}
use Rattle.std.specs.Io.KnownBytes.{prepend_known}
use Rattle.std.specs.List.{flat_map}
use Rattle.sector_disk.specs.declared.device.SectorDevice.{Ghosts}
use Rattle.journal.specs.Suits.{suits}
use Rattle.stores.specs.Images.{HasMeaning}
use Rattle.block_words.specs.Words.{Save, has_unsaved}
use Rattle.interpreter.specs.State.{Forth}
use Rattle.interpreter.specs.Lines.{LineEnd}
use Rattle.interpreter.specs.Promise.{Keeps}
use Rattle.interpreter.specs.declared.place.LeftAt.{LeftAt}
use Rattle.interpreter.specs.declared.place.Place.{Place}
use Rattle.sessions.specs.Devices.{Becomes}
use Rattle.sessions.specs.Heard.{EndsBy}
use Rattle.sessions.specs.Sessions.{StopsAtFailure}
use Rattle.sessions.specs.Streams.{left_of}
use Rattle.sessions.specs.Strict.{NoneFailed, strict_ones}
use Rattle.sessions.specs.declared.strictness.Strictness.{Strictness}
use Rattle.sessions.specs.declared.strictness.Strictness.TheVariants.{Never, First, Always}
use Rattle.sessions.specs.declared.run_end.RunEnd.{RunEnd}
use Rattle.sessions.specs.declared.run_end.RunEnd.TheVariants as by
use Rattle.sessions.specs.declared.run_fault.RunFault.{RunFault}
use Rattle.command_line.specs.declared.orders.Script.{Script}
use Rattle.terminal.specs.Done.{LeavesBlocks, Recovers, RunsSession, maps_on, meant_by, Allowed, new_system, allowing}
use Rattle.terminal.specs.Texts.{AreTexts}
use Rattle.terminal.specs.declared.failure.Outcome.{Outcome}
use Rattle.terminal.specs.declared.failure.Outcome.TheVariants.{Done, Stopped}

-- a text that ends with a line feed, unless it is empty: its last line may lack that
abbrev pub lined : List ℕ → List ℕ
lined [] = []
lined (b ∷ bytes) = strip_last 10 (b ∷ bytes) ++ 10 ∷ []

-- the line that loads a block, where one is asked for
abbrev pub load_line : Option ℕ → List ℕ
load_line None = []
load_line (Some block) = decimal block ++ codes " LOAD" ++ 10 ∷ []

-- What a session reads in which this line and these files are asked for: behind the line the lines of the files' texts, one after
-- another, and behind these the input, where it goes on with that.
abbrev pub IsLed : (is_text : (path text : List ℕ) → Type 0) (line : List ℕ) (files : List (Bor (List ℕ))) (goes_on : Bool) (left led : Option (List ℕ)) → Type 0
IsLed is_text line files goes_on left led =
    (texts : List (List ℕ)) × AreTexts is_text files texts × (led ≡ prepend_known (line ++ flat_map lined texts) (left_of (not goes_on) left))

-- A strict session ends with the first line that fails, whichever that is, and one behind a block with the line that loads it.
abbrev pub strictness_by : (is_strict : Bool) (load : Option ℕ) → Strictness
strictness_by true load = Always
strictness_by false (Some block) = First
strictness_by false None = Never

abbrev pub strictness_of : Script → Strictness
strictness_of script = strictness_by script.is_strict script.load

-- nothing is asked for but a session of the input
abbrev pub is_plain : Script → Bool
is_plain script = not script.is_traced && not script.is_strict && not script.undoes && is_none script.load && length script.files.items == 0

-- what a script allows each line
abbrev pub allowed_by : (steps : ℕ) → Script → Allowed
allowed_by steps script = allowing steps script.undoes

-- what is told where changed blocks were not saved
abbrev pub unsaved_notice : List ℕ
unsaved_notice = codes "forth83: image: changed blocks were not saved" ++ 10 ∷ []

module _ {D : Type 0} (G : Ghosts D) where
  -- `run`: a session over the image of what the script asks for, in which no line failed with which it would have ended.
  pub record RunsScript (is_text : (path text : List ℕ) → Type 0) (steps : ℕ) (script : Script) (left left' written written' : Option (List ℕ)) (device after : D) : Type 0 where
    pub led : Option (List ℕ)
    pub leads : IsLed is_text (load_line script.load) script.files.items script.goes_on left led
    pub session : RunsSession G (allowed_by steps script) led left' written written' device after
    pub unfailed : (keeps : IsTrue (suits G device)) → NoneFailed (strict_ones (strictness_of script) (session.runs keeps).completes.turns)

  -- A session from the opening state on, up to the first line that failed, with which it ends by how strict it is. What a stop may have
  -- left are blocks as they were saved, and at the end, where no fault has closed the store, those that were saved last.
  pub record StopsFrom (strictness : Strictness) (opening : Forth) (left left' written written' : Option (List ℕ)) (old new : D) : Type 0 where
    pub closing : Forth
    pub made : List Save
    pub stops : StopsAtFailure G opening closing left left' written written' old new made
    pub strict : strict_ones strictness (stops.turns ++ stops.last ∷ []) ≡ stops.turns ++ stops.last ∷ []
    pub keeps : Keeps G opening closing old new made
    pub saved : closing.world.maps.closed ≡ false → LeavesBlocks G new closing.world.maps.saved

  -- The same of a script: it is strict, or loads a block with its first line, and its image was recovered before.
  pub record StopsScript (is_text : (path text : List ℕ) → Type 0) (steps : ℕ) (script : Script) (left left' written written' : Option (List ℕ)) (device after : D) : Type 0 where
    pub strict : strictness_of script ≢ Never
    pub led : Option (List ℕ)
    pub leads : IsLed is_text (load_line script.load) script.files.items script.goes_on left led
    pub begun : D
    pub recovers : Recovers G device begun
    pub well : G.failures begun ≡ G.failures device
    pub meant : IsTrue (suits G device) → HasMeaning (G.sector_count device) (G.disk device).content
    pub goes : Becomes G begun after
    pub stops : IsTrue (suits G device) → StopsFrom (strictness_of script) (new_system (allowed_by steps script) (maps_on G device)) led left' written written' begun after

  -- It ended so.
  abbrev pub ScriptEnded : (is_text : (path text : List ℕ) → Type 0) → Outcome → (steps : ℕ) (script : Script) (left left' written written' : Option (List ℕ))
      (device after : D) → Type 0
  ScriptEnded is_text Done = RunsScript is_text
  ScriptEnded is_text Stopped = StopsScript is_text

  -- ---- how a session ended, and whether blocks were changed in it and not saved

  -- A session from the opening state on, of which a tracer is told. What a stop may have left are blocks as they were saved, and at
  -- the end those that were saved last. Of the blocks of a store that a fault has closed nothing is said.
  pub record EndsFrom {T : Type 0} (hears : (old new : T) → LineEnd → Option LeftAt → Option Place → List ℕ → List Place → List ℕ → Type 0) (strictness : Strictness) (end : Result RunEnd RunFault) (is_unsaved : Bool)
      (opening : Forth) (left left' written written' : Option (List ℕ)) (old new : D) (tracer tracer' : T) : Type 0 where
    pub closing : Forth
    pub made : List Save
    pub ends : EndsBy hears G strictness end opening closing left left' written written' old new made tracer tracer'
    pub keeps : Keeps G opening closing old new made
    pub saved : closing.world.maps.closed ≡ false → LeavesBlocks G new closing.world.maps.saved
    pub unsaved : closing.world.maps.closed ≡ false → is_unsaved ≡ has_unsaved closing.world.buffers closing.world.maps

  -- The same over the image of a device, which was recovered before: a line that fails ends the session only where it is strict.
  pub record EndsSession {T : Type 0} (hears : (old new : T) → LineEnd → Option LeftAt → Option Place → List ℕ → List Place → List ℕ → Type 0) (allowed : Allowed) (strictness : Strictness) (end : Result RunEnd RunFault) (is_unsaved : Bool)
      (left left' written written' : Option (List ℕ)) (tracer tracer' : T) (device after : D) : Type 0 where
    pub begun : D
    pub recovers : Recovers G device begun
    pub well : G.failures begun ≡ G.failures device
    pub meant : IsTrue (suits G device) → HasMeaning (G.sector_count device) (G.disk device).content
    pub same : IsTrue (suits G device) → LeavesBlocks G begun (meant_by G device)
    pub goes : Becomes G begun after
    pub strict : IfOk end (λ end. end ≡ by.Failure → strictness ≢ Never)
    pub ends : IsTrue (suits G device)
        → EndsFrom hears strictness end is_unsaved (new_system allowed (maps_on G device)) left left' written written' begun after tracer tracer'

  -- The same of a script, which says what is read and whether it is strict.
  pub record EndsScript {T : Type 0} (hears : (old new : T) → LineEnd → Option LeftAt → Option Place → List ℕ → List Place → List ℕ → Type 0)
      (is_text : (path text : List ℕ) → Type 0) (steps : ℕ) (script : Script) (end : Result RunEnd RunFault) (is_unsaved : Bool)
      (left left' written written' : Option (List ℕ)) (tracer tracer' : T) (device after : D) : Type 0 where
    pub led : Option (List ℕ)
    pub leads : IsLed is_text (load_line script.load) script.files.items script.goes_on left led
    pub session : EndsSession hears (allowed_by steps script) (strictness_of script) end is_unsaved led left' written written' tracer tracer' device after
