-- A reading of the input, byte by byte.
use Rattle.std.specs.Prelude.{◌≡◌, ℕ, ◌+◌, ◌<◌, ◌≤◌, Bool, true, false, List, [], ◌++◌, length, Option, Some, None, Result, Ok, Err}
use Rattle.data_space.specs.Space.{with_bytes}
use Rattle.interpreter.specs.declared.terminal.IoFault.{IoFault}
use Rattle.interpreter.specs.declared.fault.Stop.{Stop}
use Rattle.interpreter.specs.declared.fault.Stop.TheVariants as stop
use Rattle.sector_disk.specs.declared.device.SectorDevice.{Ghosts}
use Rattle.interpreter.specs.declared.terminal.Terminal.{Ghosts as TerminalGhosts}
use Rattle.interpreter.specs.declared.forth.Forth.{Forth}
use Rattle.interpreter.specs.declared.services.reading_words.Room.{Room}
use Rattle.interpreter.specs.ServiceContract.{Heard}
use Rattle.interpreter.specs.Deeds.{Deed, nothing}
use Rattle.interpreter.specs.Terminals.{stored, unread, meets_end, asked}

-- a terminal that failed stops the line
abbrev pub io_of : {A : Type 0} → Result A IoFault → Result (Unit {0}) Stop
io_of (Ok value) = Ok tt
io_of (Err fault) = Err stop.Io

-- so many calls of the terminal gave these bytes, and maybe met the end
abbrev pub reads : List ℕ → Bool → ℕ → Deed
reads given met calls = record nothing { given = given; met = met; calls = calls }

-- Of a reading of u bytes, these were given and these stored, and so many more may be: the rest goes on as a reading of
-- those.
pub record Reading (u : ℕ) (given bytes : List ℕ) (left : ℕ) : Type 0 where
  pub stored : (rest : List ℕ) → stored u (given ++ rest) ≡ bytes ++ stored left rest
  pub unread : (rest : List ℕ) → unread u (given ++ rest) ≡ unread left rest
  pub meets_end : (rest : List ℕ) → meets_end u (given ++ rest) ≡ meets_end left rest
  pub asked : (rest : List ℕ) → asked u (given ++ rest) ≡ length given + asked left rest

-- A reading of u bytes to a has come so far: so many are stored, and so many more may be.
pub record Filling {D T : Type 0} {G : Ghosts D} (H : TerminalGhosts T) (a u count left : ℕ) (old new : Forth D G) (terminal terminal' : T) : Type 0 where
  pub given : List ℕ
  pub bytes : List ℕ
  pub reading : Reading u given bytes left
  pub counted : count ≡ length bytes
  pub room : count + left ≤ u
  pub space : new.space ≡ with_bytes old.space a bytes
  pub rest : new ≡ record old { space = new.space }
  pub heard : Heard H (Ok tt) (reads given false (length given)) terminal terminal'

-- it took a byte more
pub record Stepped {D T : Type 0} {G : Ghosts D} (H : TerminalGhosts T) (a u count left : ℕ) (old new : Forth D G) (terminal terminal' : T) : Type 0 where
  pub filling : Filling H a u count left old new terminal terminal'
  pub some : 0 < length filling.given
  pub fewer : H.may_give terminal' < H.may_give terminal

-- the terminal was asked in vain
pub record AskedMore {D T : Type 0} {G : Ghosts D} (H : TerminalGhosts T) (result : Result (Unit {0}) Stop) (deed : Deed) (old new : Forth D G) (terminal terminal' : T) : Type 0 where
  pub rest : new ≡ old
  pub heard : Heard H result deed terminal terminal'

abbrev pub StepOf : {D T : Type 0} {G : Ghosts D} (H : TerminalGhosts T) (a u : ℕ) → Result (Option Room) IoFault → (old new : Forth D G) (terminal terminal' : T) → Type 0
StepOf H a u (Ok (Some room)) old new terminal terminal' = Stepped H a u room.count room.left old new terminal terminal'
StepOf H a u (Ok None) old new terminal terminal' = AskedMore H (Ok tt) (reads [] true 1) old new terminal terminal'
StepOf H a u (Err fault) old new terminal terminal' = AskedMore H (Err stop.Io) nothing old new terminal terminal'
