-- What a whole line promises, before it is said as a turn.
use Rattle.std.specs.Prelude.{◌≡◌, ℕ, Bool, true, false, [], ◌++◌, Option, Some, None, Result, Ok, Err}
use Rattle.sector_disk.specs.declared.device.SectorDevice.{Ghosts}
use Rattle.cell_machine.specs.Frames.{Core}
use Rattle.interpreter.specs.declared.terminal.Terminal.{Ghosts as TerminalGhosts}
use Rattle.interpreter.specs.declared.fault.Stop.{Stop}
use Rattle.interpreter.specs.declared.fault.Stop.TheVariants as stop
use Rattle.interpreter.specs.declared.lines.LineEnd.{LineEnd}
use Rattle.interpreter.specs.declared.lines.LineEnd.TheVariants as end
use Rattle.interpreter.specs.declared.forth.Forth.{Forth}
use Rattle.interpreter.specs.declared.place.LeftAt.{LeftAt}
use Rattle.interpreter.specs.Deeds.{Deed, before, after, Fits, mended}
use Rattle.interpreter.specs.Law.{Grows}
use Rattle.interpreter.specs.Lines as lines
use Rattle.interpreter.specs.Lines.{Ended}
use Rattle.interpreter.specs.Promise.{HasRisenBy, CountsDevice, OnRefused, IsCleared}
use Rattle.interpreter.specs.State as lines_state
use Rattle.interpreter.specs.State.{World, Run, with_run}
use Rattle.interpreter.specs.Stops.{fault_of}
use Rattle.interpreter.specs.Representation.{device, HasModel, RepresentsWorld}
use Rattle.interpreter.specs.ServiceContract.{Heard, KeepsAndWears, Lasts}

abbrev pub line_end : LineEnd → lines.LineEnd
line_end end.Interpreting = lines.LineEnd.Interpreting
line_end end.Compiling = lines.LineEnd.Compiling
line_end end.Quit = lines.LineEnd.Quit
line_end (end.Fault f) = lines.LineEnd.Fails (fault_of f)
line_end end.Io = lines.LineEnd.Io

-- did the terminal fail
abbrev pub is_broken : LineEnd → Bool
is_broken end.Io = true
is_broken _ = false

-- what terminal and device see of a line
abbrev pub heard_of : LineEnd → Result (Unit {0}) Stop
heard_of end.Io = Err stop.Io
heard_of _ = Ok tt

abbrev pub LastsLine : {D T : Type 0} → Ghosts D → TerminalGhosts T → LineEnd → (old new : D) (terminal terminal' : T) → Type 0
LastsLine G H e old new terminal terminal' = Lasts G H (heard_of e) old new terminal terminal'

-- the device's count of failures, by a line's end
abbrev pub Counts : LineEnd → (before after : ℕ) → Type 0
Counts e before after = CountsDevice (line_end e) before after

-- the line ends so, in each run
pub record LineLeft (start : Run → Ended) (deed : Deed) (e : LineEnd) (place : Option LeftAt) (c : Core) (x : World) : Type 0 where
  pub ends : (r : Run) → Fits deed r → start (before deed r) ≡ record { ending = line_end e; place = place; core = c; world = with_run (after deed r) x }

-- the terminal broke it off
pub record LineBreaksOff (start : Run → Ended) (deed : Deed) (c : Core) (x : World) (r : Run) : Type 0 where
  pub run : Run
  pub ends : start (before deed r) ≡ record { ending = lines.LineEnd.Io; place = None; core = c; world = with_run run x }
  pub input : run.input ≡ r.input
  pub output : run.output ≡ r.output ++ deed.printed
  pub saves : run.saves ≡ r.saves ++ deed.saves

pub record LineBroke (start : Run → Ended) (deed : Deed) (c : Core) (x : World) : Type 0 where
  pub breaks : (r : Run) → Fits deed r → r.terminal ≡ Some 0 → LineBreaksOff start deed c x r
  pub grows : (r : Run) → Fits deed r → Grows (after (mended deed) r) (start (before (mended deed) r)).world.run
  pub input : (r : Run) → Fits deed r → r.terminal ≡ None → r.input ≡ [] → (start (before deed r)).world.run.input ≡ []
  pub failures : (r : Run) → Fits deed r → r.terminal ≡ None → r.answers ≡ [] → (start (before deed r)).world.run.failures ≡ (after deed r).failures

abbrev pub LineComes : (start : Run → Ended) → Deed → LineEnd → Option LeftAt → Core → World → Type 0
LineComes start deed end.Io place c x = LineBroke start deed c x
LineComes start deed e place c x = LineLeft start deed e place c x

module _ {D : Type 0} {G : Ghosts D} where
  -- the same stack and data space: no steps are left over
  pub record SameStackAndSpace (c : Core) (forth : Forth D G) : Type 0 where
    pub stack : c.stack ≡ forth.stack
    pub space : c.space ≡ forth.space

  pub record SameSpace (c : Core) (forth : Forth D G) : Type 0 where
    pub space : c.space ≡ forth.space

  -- between two lines the system stands for this
  pub record RepresentsForth (opening : lines_state.Forth) (forth : Forth D G) : Type 0 where
    pub budget : opening.budget ≡ forth.budget.steps
    pub undoes : opening.undoes ≡ forth.budget.undoes
    pub same_core : SameStackAndSpace opening.core forth
    pub rests : RepresentsWorld forth opening.world

  -- between two lines it stands for a state as a fault leaves one
  abbrev pub Cleared : Forth D G → Type 0
  Cleared forth = (closing : lines_state.Forth) × RepresentsForth closing forth × IsCleared closing

  -- so it does where the line ended in a fault, or the terminal failed
  abbrev pub Clears : LineEnd → Forth D G → Type 0
  Clears e forth = OnRefused (line_end e) (Cleared forth)

  -- the system stands for this abstract Forth
  pub record IsSystem (forth : Forth D G) (state : lines_state.Forth) : Type 0 where
    pub represents : RepresentsForth state forth
    pub model : HasModel forth

  pub record LineCame (start : Run → Ended) (deed : Deed) (e : LineEnd) (new : Forth D G) (x : World) : Type 0 where
    pub core : Core
    pub same_core : SameStackAndSpace core new
    pub comes : LineComes start deed e new.place core x

module _ {D T : Type 0} {G : Ghosts D} (H : TerminalGhosts T) where
  pub record RanLine (start : Run → Ended) (e : LineEnd) (old new : Forth D G) (terminal terminal' : T) (x : World) : Type 0 where
    pub deed : Deed
    pub world : World
    pub rests : RepresentsWorld new world
    pub came : HasModel old → LineCame start deed e new world
    pub heard : Heard H (heard_of e) deed terminal terminal'
    pub cause : HasRisenBy deed.failures (G.failures (device old)) (G.failures (device new))
    pub keeps : HasModel old → KeepsAndWears G x.maps world.maps (device old) (device new) deed.saves deed.wear
