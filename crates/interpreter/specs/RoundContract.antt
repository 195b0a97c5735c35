-- What a round of a line's loop promises.
use Rattle.std.specs.Prelude.{◌≡◌, ℕ, ◌<◌, ◌≤◌, List, [], ◌∷◌, Result, Ok, Err}
use Rattle.sector_disk.specs.declared.device.SectorDevice.{Ghosts}
use Rattle.cell_machine.specs.Frames.{Core, Level, Load}
use Rattle.cell_machine.specs.Value.{Outcome, Did, Ends}
use Rattle.interpreter.specs.declared.terminal.Terminal.{Ghosts as TerminalGhosts}
use Rattle.cell_machine.specs.Fault.{Faults}
use Rattle.interpreter.specs.declared.fault.Fault.{Fault}
use Rattle.interpreter.specs.Stops.{fault_of, stop_count}
use Rattle.interpreter.specs.declared.fault.Stop.{Stop}
use Rattle.interpreter.specs.declared.interpreting.Round.{Round}
use Rattle.interpreter.specs.declared.interpreting.Round.TheVariants.{GoesOn, Over}
use Rattle.interpreter.specs.declared.forth.Forth.{Forth}
use Rattle.lexicon.specs.Falling.{fall_of}
use Rattle.interpreter.specs.Deeds.{Deed, before, after, Fits}
use Rattle.interpreter.specs.Law.{left}
use Rattle.interpreter.specs.Promise.{HasRisenBy}
use Rattle.interpreter.specs.State.{World, Run, with_run}
use Rattle.interpreter.specs.Representation.{core, device, HasModel, RepresentsWorld, Represents, RepresentsAfter}
use Rattle.interpreter.specs.ServiceContract.{Comes, Heard, KeepsAndWears, Lasts, Tells}

-- what terminal and device see of a round
abbrev pub seen : Result Round Stop → Result (Unit {0}) Stop
seen (Ok _) = Ok tt
seen (Err stop) = Err stop

-- a round that did a service
abbrev pub round_of : Result (Unit {0}) Stop → Result Round Stop
round_of (Ok _) = Ok GoesOn
round_of (Err stop) = Err stop

-- what comes of the line
abbrev pub RoundComes : (n : ℕ) → (start : Run → Outcome World) → Deed → Result Round Stop → List Level → Core → World → Type 0
RoundComes n start deed (Ok GoesOn) levels c x = (r : Run) → Fits deed r → start (before deed r) ≡ left n levels c (with_run (after deed r) x)
RoundComes n start deed (Ok Over) levels c x = (r : Run) → Fits deed r → start (before deed r) ≡ Did c (with_run (after deed r) x)
RoundComes n start deed (Err stop) levels c x = Comes start deed (Err stop) c x

-- The measure that falls with each round: the steps, and where a round is free, the units of the return stack.
abbrev pub measure : {D : Type 0} {G : Ghosts D} → Forth D G → ℕ
measure forth = fall_of forth.steps forth.returns

abbrev pub Decreases : Result Round Stop → (before after : ℕ) → Type 0
Decreases (Ok GoesOn) before after = after < before
Decreases _ before after = Unit {0}

-- at any device and terminal
abbrev pub LastsRound : {D T : Type 0} → Ghosts D → TerminalGhosts T → Result Round Stop → (old new : D) (terminal terminal' : T) → Type 0
LastsRound G H result old new terminal terminal' = Lasts G H (seen result) old new terminal terminal'

module _ {D : Type 0} {G : Ghosts D} where
  -- after a round
  abbrev pub RepresentsAfterRound : Result Round Stop → Forth D G → List Level → World → Type 0
  RepresentsAfterRound (Ok GoesOn) forth levels x = Represents forth levels x
  RepresentsAfterRound (Ok Over) forth levels x = Represents forth [] x
  RepresentsAfterRound (Err stop) forth levels x = RepresentsWorld forth x

module _ {D T : Type 0} {G : Ghosts D} (H : TerminalGhosts T) (n : ℕ) where
  pub record RanRound (start : Run → Outcome World) (result : Result Round Stop) (old new : Forth D G) (terminal terminal' : T) (x : World) : Type 0 where
    pub deed : Deed
    pub levels : List Level
    pub world : World
    pub stands : RepresentsAfterRound result new levels world
    pub steps : new.steps ≤ old.steps
    pub comes : HasModel old → RoundComes n start deed result levels (core new) world
    pub heard : Heard H (seen result) deed terminal terminal'
    pub cause : HasRisenBy deed.failures (G.failures (device old)) (G.failures (device new))
    pub keeps : HasModel old → KeepsAndWears G x.maps world.maps (device old) (device new) deed.saves deed.wear

module _ {D T : Type 0} {G : Ghosts D} (H : TerminalGhosts T) where
  -- what a round leaves, at any device and terminal
  pub record ContinuesRound (result : Result Round Stop) (old new : Forth D G) (terminal terminal' : T) : Type 0 where
    pub lasts : LastsRound G H result (device old) (device new) terminal terminal'
    pub tells : Tells stop_count result old new
    pub budget : new.budget ≡ old.budget

-- nothing is left to do above the text of the line, or of the innermost load
abbrev pub IsAtText : List Level → Type 0
IsAtText [] = Unit {0}
IsAtText (Load blk to_in ∷ levels) = Unit {0}
IsAtText _ = ⊥

-- what comes of a word that is entered
abbrev pub GoesTo : (n : ℕ) → (start : Run → Outcome World) → Result (Unit {0}) Fault → List Level → Core → World → Type 0
GoesTo n start (Ok _) levels c x = (r : Run) → start r ≡ left n levels c (with_run r x)
GoesTo n start (Err f) levels c x = (said : Core) × (said.space ≡ c.space) × ((r : Run) → start r ≡ Ends (Faults (fault_of f)) said (with_run r x))

-- A word or a load stands before what was left to do, or the line ends; neither terminal nor device is reached.
pub record Entered {D : Type 0} {G : Ghosts D} (n : ℕ) (start : Run → Outcome World) (result : Result (Unit {0}) Fault) (old new : Forth D G) (x : World) : Type 0 where
  pub levels : List Level
  pub world : World
  pub stands : RepresentsAfter result new levels world
  pub goes : GoesTo n start result levels (core new) world
  pub maps : world.maps ≡ x.maps
  pub steps : new.steps ≤ old.steps
