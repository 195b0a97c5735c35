-- A session over a store, from the store that is opened to the store that is given back.
use Rattle.std.specs.Prelude.{◌≡◌, ℕ, Bool, false, List, Option, Result, OnOk, IfErr}
use Rattle.sector_disk.specs.declared.device.SectorDevice.{Ghosts}
use Rattle.journal.specs.Store.{StandsFor, device_of}
use Rattle.journal.specs.declared.store.Store.{Store}
use Rattle.block_words.specs.Words.{Save, has_unsaved}
use Rattle.interpreter.specs.State.{Forth}
use Rattle.interpreter.specs.Lines.{LineEnd}
use Rattle.interpreter.specs.Promise.{Keeps}
use Rattle.interpreter.specs.declared.place.LeftAt.{LeftAt}
use Rattle.interpreter.specs.declared.place.Place.{Place}
use Rattle.sessions.specs.Heard.{EndsBy}
use Rattle.sessions.specs.Sessions.{Completes, BreaksOff}
use Rattle.sessions.specs.declared.run_end.RunEnd.{RunEnd}
use Rattle.sessions.specs.declared.run_fault.RunFault.{RunFault}
use Rattle.sessions.specs.declared.strictness.Strictness.{Strictness}

-- A system that begins over the one store leaves the other one: it completes its session, or breaks off at a fault. The store has
-- then the blocks of the system at its end, and what a stop may leave is kept with the saves that were begun.
abbrev pub RunsOver : {D T : Type 0} (G : Ghosts D) (opening : Forth) (old new : Store D G) (end : Result T RunFault)
    (left left' written written' : Option (List ℕ)) → Type 0
RunsOver G opening old new end left left' written written' =
    (closing : Forth) × (made : List Save) × StandsFor new closing.world.maps
    × Keeps G opening closing (device_of old) (device_of new) made
    × OnOk end (Completes G opening closing left left' written written' (device_of old) (device_of new) made)
    × IfErr end (λ fault. BreaksOff G fault opening closing left left' written written' (device_of old) (device_of new) made)

-- The same of a run of which a tracer is told, and that may end with a line that failed; and, unless the store was closed, whether changed
-- blocks were left unsaved.
abbrev pub RunsOverBy : {D T : Type 0} (hears : (old new : T) → LineEnd → Option LeftAt → Option Place → List ℕ → List Place → List ℕ → Type 0) (G : Ghosts D) (strictness : Strictness) (opening : Forth) (old new : Store D G)
    (end : Result RunEnd RunFault) (is_unsaved : Bool) (left left' written written' : Option (List ℕ)) (tracer tracer' : T) → Type 0
RunsOverBy hears G strictness opening old new end is_unsaved left left' written written' tracer tracer' =
    (closing : Forth) × (made : List Save) × StandsFor new closing.world.maps
    × (closing.world.maps.closed ≡ false → is_unsaved ≡ has_unsaved closing.world.buffers closing.world.maps)
    × Keeps G opening closing (device_of old) (device_of new) made
    × EndsBy hears G strictness end opening closing left left' written written' (device_of old) (device_of new) made tracer tracer'
