-- What each service promises: what comes of the line's value where it is done, and what terminal and device saw of it.
use Rattle.std.specs.Prelude.{◌≡◌, ℕ, ◌+◌, ◌≤◌, true, List, [], ◌++◌, Option, Some, None, Result, Ok, Err}
use Rattle.std.specs.Io.KnownBytes.{Appends, Consumes}
use Rattle.sector_disk.specs.Counting.{count_up}
use Rattle.sector_disk.specs.Moments.{Elapses}
use Rattle.sector_disk.specs.declared.device.SectorDevice.{Ghosts}
use Rattle.journal.specs.Maps.{Maps}
use Rattle.block_words.specs.Words.{Answer, Save, Wear}
use Rattle.block_words.specs.Calls.{WearsAtMost}
use Rattle.cell_machine.specs.Fault.{Ending, Quits, Breaks, Faults}
use Rattle.cell_machine.specs.Frames.{Core, Around, Level, around_of}
use Rattle.cell_machine.specs.Value.{Outcome, Did, Ends}
use Rattle.interpreter.specs.declared.terminal.Terminal.{Ghosts as TerminalGhosts}
use Rattle.interpreter.specs.declared.fault.Fault.{Fault}
use Rattle.interpreter.specs.declared.fault.Stop.{Stop}
use Rattle.interpreter.specs.declared.fault.Stop.TheVariants as stop
use Rattle.interpreter.specs.declared.forth.Forth.{Forth}
use Rattle.interpreter.specs.Stops.{fault_of, ending_of, fault_count, stop_count}
use Rattle.interpreter.specs.Deeds.{Deed, before, after, Fits, mended, asking}
use Rattle.interpreter.specs.Law.{run_after, Grows}
use Rattle.interpreter.specs.Promise.{HasRisenBy, KeepsMaps}
use Rattle.interpreter.specs.State.{World, Run, with_run}
use Rattle.interpreter.specs.Representation.{core, device, HasModel, Represents, RepresentsAfter}
use Rattle.interpreter.specs.Terminal.{Begins}
use Rattle.journal.specs.Suits.{suits}

-- ---- what comes of it

-- Where the line ends, the data stack may be any, since it is cleared: but QUIT leaves it.
abbrev pub IsLike : Ending → (said is : Core) → Type 0
IsLike Quits said is = said ≡ is
IsLike _ said is = said.space ≡ is.space

-- The line ends so. Start is what comes of the line in a run.
pub record Left (start : Run → Outcome World) (deed : Deed) (e : Ending) (c : Core) (x : World) : Type 0 where
  pub core : Core
  pub like : IsLike e core c
  pub ends : (r : Run) → Fits deed r → start (before deed r) ≡ Ends e core (with_run (after deed r) x)

-- a run that the terminal breaks off
pub record BreaksOff (start : Run → Outcome World) (deed : Deed) (said : Core) (x : World) (r : Run) : Type 0 where
  pub run : Run
  pub ends : start (before deed r) ≡ Ends Breaks said (with_run run x)
  pub input : run.input ≡ r.input
  pub output : run.output ≡ r.output ++ deed.printed
  pub saves : run.saves ≡ r.saves ++ deed.saves

-- The terminal fails at the last call, and prints nothing in it. With one that lasts longer that call prints all that it was
-- given, and output and saves go on from there. With one that doesn't fail none comes without input, and no more failure
-- without answers.
pub record Broke (start : Run → Outcome World) (deed : Deed) (c : Core) (x : World) : Type 0 where
  pub core : Core
  pub like : core.space ≡ c.space
  pub breaks : (r : Run) → Fits deed r → r.terminal ≡ Some 0 → BreaksOff start deed core x r
  pub grows : (r : Run) → Fits deed r → Grows (after (mended deed) r) (run_after (start (before (mended deed) r)))
  pub input : (r : Run) → Fits deed r → r.terminal ≡ None → r.input ≡ [] → (run_after (start (before deed r))).input ≡ []
  pub answers : (r : Run) → Fits deed r → r.terminal ≡ None → r.answers ≡ [] → (run_after (start (before deed r))).answers ≡ []
  pub failures : (r : Run) → Fits deed r → r.terminal ≡ None → r.answers ≡ [] → (run_after (start (before deed r))).failures ≡ (after deed r).failures

-- what comes of the line, by how the code left it
abbrev pub Comes : (start : Run → Outcome World) → Deed → Result (Unit {0}) Stop → Core → World → Type 0
Comes start deed (Ok _) c x = (r : Run) → Fits deed r → start (before deed r) ≡ Did c (with_run (after deed r) x)
Comes start deed (Err stop.Io) c x = Broke start deed c x
Comes start deed (Err s) c x = Left start deed (ending_of s) c x

-- a result of what reaches no terminal
abbrev pub stopped : {A : Type 0} → Result A Fault → Result A Stop
stopped (Ok v) = Ok v
stopped (Err f) = Err (stop.Fault f)

-- a value is handed to what follows, or the line ends
abbrev pub Hands : {B : Type 0} → (start : Run → (B → Core → World → Outcome World) → Outcome World) → Deed → Result B Fault → Core → World → Type 0
Hands {B} start deed (Ok v) c x = (r : Run) (go : B → Core → World → Outcome World) → start (before deed r) go ≡ go v c (with_run (after deed r) x)
Hands {B} start deed (Err f) c x =
    (said : Core) × (said.space ≡ c.space)
    × ((r : Run) (go : B → Core → World → Outcome World) → start (before deed r) go ≡ Ends (Faults (fault_of f)) said (with_run (after deed r) x))

-- ---- what terminal and device saw

-- all was printed, and where the terminal failed a beginning of what it was given then
abbrev pub Printed : Result (Unit {0}) Stop → (output printed : Option (List ℕ)) → (bytes tried : List ℕ) → Type 0
Printed (Err stop.Io) output printed bytes tried = (part : List ℕ) × Begins part tried × Appends output printed (bytes ++ part)
Printed _ output printed bytes tried = Appends output printed bytes

-- the call that failed, beside those that went well
abbrev pub failed_calls : Result (Unit {0}) Stop → ℕ
failed_calls (Err stop.Io) = 1
failed_calls _ = 0

-- It gave and was given what the deed says, in as many calls: those that went well, and the one that failed.
pub record Heard {T : Type 0} (H : TerminalGhosts T) (result : Result (Unit {0}) Stop) (deed : Deed) (old new : T) : Type 0 where
  pub given : Consumes (H.input old) (H.input new) deed.given
  pub at_end : deed.met ≡ true → H.input new ≡ Some []
  pub printed : Printed result (H.output old) (H.output new) deed.printed deed.tried
  pub calls : HasRisenBy (deed.calls + failed_calls result) (H.calls old) (H.calls new)

-- what a stop may have left since a part of a line began, and how much the device began since
pub record KeepsAndWears {D : Type 0} (G : Ghosts D) (m m' : Maps) (old new : D) (made : List Save) (wear : Wear) : Type 0 where
  pub keeps : KeepsMaps G m m' old new made
  pub wears : WearsAtMost G old new wear

-- the device's count of failures after a call, by what an error makes of it
abbrev pub count_after : {A E : Type 0} → (E → ℕ → ℕ) → Result A E → ℕ → ℕ
count_after of (Ok value) count = count
count_after of (Err error) count = of error count

-- P where the terminal failed, else Q
abbrev pub WhereBroke : Result (Unit {0}) Stop → Type 0 → Type 0 → Type 0
WhereBroke (Err stop.Io) P Q = P
WhereBroke _ P Q = Q

-- at any device and terminal
pub record Lasts {D T : Type 0} (G : Ghosts D) (H : TerminalGhosts T) (result : Result (Unit {0}) Stop) (old new : D) (terminal terminal' : T) : Type 0 where
  pub time : Elapses G.time G.left_since old new
  pub model : suits G new ≡ suits G old
  pub device_failures : G.failures old ≤ G.failures new
  pub terminal_failures : WhereBroke result (H.failures terminal' ≡ count_up (H.failures terminal)) (H.failures terminal' ≡ H.failures terminal)
  pub no_more : H.may_give terminal' ≤ H.may_give terminal
  pub same : H.identity terminal' ≡ H.identity terminal

-- at any device, where no terminal is reached
pub record LastsAlone {D : Type 0} (G : Ghosts D) (old new : D) : Type 0 where
  pub time : Elapses G.time G.left_since old new
  pub model : suits G new ≡ suits G old
  pub failures : G.failures old ≤ G.failures new

-- ---- the promises

-- what comes of a word where neither terminal nor device is reached
abbrev pub Gives : (start : Run → Outcome World) → Result (Unit {0}) Fault → Core → World → Type 0
Gives start (Ok _) c x = (r : Run) → start r ≡ Did c (with_run r x)
Gives start (Err f) c x = (said : Core) × (said.space ≡ c.space) × ((r : Run) → start r ≡ Ends (Faults (fault_of f)) said (with_run r x))

module _ {D : Type 0} {G : Ghosts D} where
  -- A part of a line that reaches neither terminal nor device. Start is what comes of the line before it.
  pub record Altered (start : Run → Outcome World) (result : Result (Unit {0}) Fault) (old new : Forth D G) (levels : List Level) (x : World) : Type 0 where
    pub world : World
    pub stands : RepresentsAfter result new levels world
    pub gives : Gives start result (core new) world
    pub maps : world.maps ≡ x.maps
    pub steps : new.steps ≤ old.steps

  -- a service that reaches neither terminal nor device
  abbrev pub Alters : (does : Around → Core → World → Outcome World) → (result : Result (Unit {0}) Fault) → (old new : Forth D G) → Type 0
  Alters does result old new =
      (levels : List Level) (x : World) → Represents old levels x
      → Altered (λ r. does (around_of levels) (core old) (with_run r x)) result old new levels x

  -- A part of a line that may reach the device, and no terminal.
  pub record Consulted (start : Run → Outcome World) (result : Result (Unit {0}) Fault) (old new : Forth D G) (levels : List Level) (x : World) : Type 0 where
    pub answers : List Answer
    pub failures : ℕ
    pub wear : Wear
    pub saves : List Save
    pub world : World
    pub stands : RepresentsAfter result new levels world
    pub steps : new.steps ≤ old.steps
    pub comes : HasModel old → Comes start (asking answers failures wear saves) (stopped result) (core new) world
    pub cause : HasRisenBy failures (G.failures (device old)) (G.failures (device new))
    pub keeps : HasModel old → KeepsAndWears G x.maps world.maps (device old) (device new) saves wear

  abbrev pub Consults : (does : Around → Core → World → Outcome World) → (result : Result (Unit {0}) Fault) → (old new : Forth D G) → Type 0
  Consults does result old new =
      (levels : List Level) (x : World) → Represents old levels x
      → Consulted (λ r. does (around_of levels) (core old) (with_run r x)) result old new levels x

  -- The same of what gives a value to the rest of the line, as a taking from the stream does.
  pub record Handed {B : Type 0} (start : Run → (B → Core → World → Outcome World) → Outcome World) (result : Result B Fault) (old new : Forth D G) (levels : List Level) (x : World) : Type 0 where
    pub answers : List Answer
    pub failures : ℕ
    pub wear : Wear
    pub saves : List Save
    pub world : World
    pub stands : RepresentsAfter result new levels world
    pub steps : new.steps ≤ old.steps
    pub hands : HasModel old → Hands start (asking answers failures wear saves) result (core new) world
    pub cause : HasRisenBy failures (G.failures (device old)) (G.failures (device new))
    pub keeps : HasModel old → KeepsAndWears G x.maps world.maps (device old) (device new) saves wear

  abbrev pub HandsOn : {B : Type 0} → (takes : Core → World → (B → Core → World → Outcome World) → Outcome World) → (result : Result B Fault) → (old new : Forth D G) → Type 0
  HandsOn {B} takes result old new =
      (levels : List Level) (x : World) → Represents old levels x
      → Handed (λ r go. takes (core old) (with_run r x) go) result old new levels x

  -- At any device, one failure more is counted where the result tells it, and else as many as before.
  abbrev pub Tells : {A E : Type 0} → (E → ℕ → ℕ) → Result A E → (old new : Forth D G) → Type 0
  Tells of result old new = G.failures (device new) ≡ count_after of result (G.failures (device old))

  -- what a part of a line leaves, at any device, that reaches neither terminal nor device
  pub record Spares {A : Type 0} (result : Result A Fault) (old new : Forth D G) : Type 0 where
    pub device : new.blocks ≡ old.blocks
    pub budget : new.budget ≡ old.budget
    pub tells : Tells fault_count result old new

  -- the same of one that can't fail
  abbrev pub SparesAll : (old new : Forth D G) → Type 0
  SparesAll old new = Spares (Ok (tt {0})) old new

  -- the same of one that reaches no terminal
  pub record ContinuesAlone {A : Type 0} (result : Result A Fault) (old new : Forth D G) : Type 0 where
    pub lasts : LastsAlone G (device old) (device new)
    pub tells : Tells fault_count result old new
    pub budget : new.budget ≡ old.budget

module _ {D T : Type 0} {G : Ghosts D} (H : TerminalGhosts T) where
  -- A part of a line, from what the system stands for: what comes of the line before it, and after it.
  pub record Ran (start : Run → Outcome World) (result : Result (Unit {0}) Stop) (old new : Forth D G) (terminal terminal' : T) (levels : List Level) (x : World) : Type 0 where
    pub deed : Deed
    pub world : World
    pub stands : RepresentsAfter result new levels world
    pub steps : new.steps ≤ old.steps
    pub comes : HasModel old → Comes start deed result (core new) world
    pub heard : Heard H result deed terminal terminal'
    pub cause : HasRisenBy deed.failures (G.failures (device old)) (G.failures (device new))
    pub keeps : HasModel old → KeepsAndWears G x.maps world.maps (device old) (device new) deed.saves deed.wear

  -- a service
  abbrev pub Serves : (does : Around → Core → World → Outcome World) → (result : Result (Unit {0}) Stop) → (old new : Forth D G) → (terminal terminal' : T) → Type 0
  Serves does result old new terminal terminal' =
      (levels : List Level) (x : World) → Represents old levels x
      → Ran (λ r. does (around_of levels) (core old) (with_run r x)) result old new terminal terminal' levels x

  -- what a part of a line leaves, at any device and terminal
  pub record Continues (result : Result (Unit {0}) Stop) (old new : Forth D G) (terminal terminal' : T) : Type 0 where
    pub lasts : Lasts G H result (device old) (device new) terminal terminal'
    pub tells : Tells stop_count result old new
    pub budget : new.budget ≡ old.budget
