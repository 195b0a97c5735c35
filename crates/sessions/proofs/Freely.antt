-- A run that isn't strict ends with its input alone.
use Rattle.std.proofs.Common.{◌≡◌, ℕ, List, [], ◌∷◌, ◌++◌, Option, Ok, refl}
use Rattle.sector_disk.specs.declared.device.SectorDevice.{Ghosts}
use Rattle.block_words.specs.Words.{Save}
use Rattle.interpreter.specs.State.{Forth}
use Rattle.interpreter.specs.Lines.{LineEnd}
use Rattle.interpreter.specs.declared.place.LeftAt.{LeftAt}
use Rattle.interpreter.specs.declared.place.Place.{Place}
use Rattle.sessions.specs.declared.run_end.RunEnd.{RunEnd}
use Rattle.sessions.specs.declared.run_end.RunEnd.TheVariants.{Input, Failure}
use Rattle.interpreter.specs.Lines.{Turn}
use Rattle.sessions.specs.Heard.{CompletesHeard, EndsBy}
use Rattle.sessions.specs.declared.strictness.Strictness.TheVariants.{Never}

no_last : (turns : List Turn) (last : Turn) → [] ≡ turns ++ last ∷ [] → ⊥
no_last [] last is = cc
no_last (turn ∷ turns) last is = cc

pub completes_freely : {T : Type 0} (hears : (old new : T) → LineEnd → Option LeftAt → Option Place → List ℕ → List Place → List ℕ → Type 0) {D : Type 0} (G : Ghosts D) (end : RunEnd) (opening closing : Forth)
    (left left' written written' : Option (List ℕ)) (old new : D) (made : List Save) (tracer tracer' : T)
    → EndsBy hears G Never (Ok end) opening closing left left' written written' old new made tracer tracer'
    → CompletesHeard hears G opening closing left left' written written' old new made tracer tracer'
completes_freely hears G Input opening closing left left' written written' old new made tracer tracer' h = h.whole
completes_freely hears G Failure opening closing left left' written written' old new made tracer tracer' h = absurd (no_last h.stops.run.turns h.stops.run.last h.strict)
