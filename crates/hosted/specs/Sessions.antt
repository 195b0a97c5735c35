-- A session over an image on a device.
use Rattle.std.specs.Prelude.{◌≡◌, ◌≢◌, ◌⊎◌, ℕ, false, IsTrue, List, [], ◌∷◌, ◌++◌, Option, None}
use Rattle.sector_disk.specs.declared.device.SectorDevice.{Ghosts}
use Rattle.journal.specs.Calls.{StopsLeave}
use Rattle.journal.specs.Maps.{Maps, fresh}
use Rattle.journal.specs.Store.{StandsFor, device_of}
use Rattle.journal.specs.declared.store.Store.{Store}
use Rattle.journal.specs.Suits.{suits}
use Rattle.block_words.specs.Words.{Save}
use Rattle.interpreter.specs.State.{Forth}
use Rattle.interpreter.specs.Lines.{new_forth}
use Rattle.interpreter.specs.Promise.{Keeps}
use Rattle.sessions.specs.declared.run_fault.RunFault.{RunFault}
use Rattle.sessions.specs.Devices.{Becomes}
use Rattle.sessions.specs.Sessions.{Completes, BreaksOff, wear_of}
use Rattle.hosted.specs.Calls.{LeavesBlocks, MayRecover, OpensOn, meant_by}
use Rattle.hosted.specs.Costs.{OpeningBegins, SessionBegins}
use Rattle.hosted.specs.Refusals.{TellsFirst, code_of}
use Rattle.hosted.specs.declared.refusal.Refusal.{Refusal}
use Rattle.hosted.specs.declared.refusal.Refusal.TheVariants.{Input, Output, NoMemory}

-- What is told of a session: the first test that the image failed, or that a call of the device did; or of an image that was opened that the
-- input or the output failed, or that there was no memory.
abbrev pub TellsSession : (answer : ℕ) → Option Refusal → Type 0
TellsSession answer first =
    TellsFirst answer first
    ⊎ ((first ≡ None) × ((answer ≡ code_of Input) ⊎ ((answer ≡ code_of Output) ⊎ (answer ≡ code_of NoMemory))))

-- What is told says that no line was run.
pub record RanNothing (answer : ℕ) : Type 0 where
  pub not_done : answer ≢ 0
  pub not_input : answer ≢ code_of Input
  pub not_output : answer ≢ code_of Output

module _ {D : Type 0} (G : Ghosts D) where
  -- A new system over the blocks that the image on the device means.
  abbrev pub system_on : (steps : ℕ) → D → Forth
  system_on steps device = new_forth steps (fresh (meant_by G device))

  -- The session of a system: the input was read to its end, and the output is its replies. What a stop may have left are blocks
  -- as they were saved, and at the end, unless a fault has closed the store, those that were saved last.
  pub record RunsFrom (opening : Forth) (left left' written written' : Option (List ℕ)) (old new : D) : Type 0 where
    pub closing : Forth
    pub made : List Save
    pub completes : Completes G opening closing left left' written written' old new made
    pub keeps : Keeps G opening closing old new made
    pub saved : closing.world.maps.closed ≡ false → LeavesBlocks G new closing.world.maps.saved

  -- A recovery of the image on the device, of which no call failed, and then a session over its blocks.
  pub record RunsSession (steps : ℕ) (left left' written written' : Option (List ℕ)) (device after : D) : Type 0 where
    pub begun : D
    pub well : G.failures begun ≡ G.failures device
    pub goes : Becomes G device begun
    pub runs_on : Becomes G begun after
    pub stops : IsTrue (suits G device) → StopsLeave G device begun (MayRecover G device)
    pub runs : IsTrue (suits G device) → RunsFrom (system_on steps device) left left' written written' begun after
    pub begins : (keeps : IsTrue (suits G device)) → SessionBegins G device after (wear_of (runs keeps).completes.turns)

  -- The same, where input or output failed: the session broke off there.
  pub record BreaksSession (fault : RunFault) (steps : ℕ) (left left' written written' : Option (List ℕ)) (device after : D) : Type 0 where
    pub begun : D
    pub well : G.failures begun ≡ G.failures device
    pub goes : Becomes G device begun
    pub runs_on : Becomes G begun after
    pub closing : Forth
    pub made : List Save
    pub stops : StopsLeave G device begun (MayRecover G device)
    pub breaks : BreaksOff G fault (system_on steps device) closing left left' written written' begun after made
    pub keeps : Keeps G (system_on steps device) closing begun after made
    pub begins : SessionBegins G device after (wear_of (breaks.turns ++ breaks.last))

module _ {D F : Type 0} {G : Ghosts D} (stands : F → Forth → Type 0) (sound : F → Type 0) (device_of_system : F → D) (steps : ℕ) where
  -- A new system over a store, alone in what holds it.
  pub record BegunOver (store : Store D G) (room : List F) : Type 0 where
    pub system : F
    pub alone : room ≡ system ∷ []
    pub is_sound : sound system
    pub begins : (m : Maps) → StandsFor store m → stands system (new_forth steps m)
    pub device : device_of_system system ≡ device_of store

module _ {D F : Type 0} (G : Ghosts D) (stands : F → Forth → Type 0) (sound : F → Type 0) (device_of_system : F → D) where
  -- A new system over the image on a device, which was opened.
  pub record BegunOn (steps : ℕ) (device : D) (room : List F) : Type 0 where
    pub store : Store D G
    pub opens : OpensOn G device store
    pub opening : IsTrue (suits G device) → OpeningBegins G device (device_of store)
    pub over : BegunOver {G = G} stands sound device_of_system steps store room

module _ {D F : Type 0} (G : Ghosts D) (stands : F → Forth → Type 0) (device_of_system : F → D) where
  -- A system that ended left this device: its store stood for what the system stood for.
  pub record EndsOn (system : F) (device : D) : Type 0 where
    pub store : Store D G
    pub left : device ≡ device_of store
    pub same : device_of store ≡ device_of_system system
    pub means : (state : Forth) → stands system state → StandsFor store state.world.maps
