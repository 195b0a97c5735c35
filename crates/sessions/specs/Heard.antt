-- What a tracer hears of a session: each of its lines, once and in order.
use Rattle.std.specs.Prelude.{◌≡◌, ℕ, List, [], ◌∷◌, ◌++◌, Option, Result, Ok, Err}
use Rattle.sector_disk.specs.declared.device.SectorDevice.{Ghosts}
use Rattle.block_words.specs.Words.{Save}
use Rattle.interpreter.specs.State.{Forth}
use Rattle.interpreter.specs.Lines.{LineEnd, Turn}
use Rattle.interpreter.specs.declared.place.LeftAt.{LeftAt}
use Rattle.interpreter.specs.declared.place.Place.{Place}
use Rattle.interpreter.specs.Told.{AreRead, AreStarts}
use Rattle.sessions.specs.declared.run_end.RunEnd.{RunEnd}
use Rattle.sessions.specs.declared.run_end.RunEnd.TheVariants as by
use Rattle.sessions.specs.declared.run_fault.RunFault.{RunFault}
use Rattle.sessions.specs.Sessions.{BreaksOff, Completes, StopsAtFailure}
use Rattle.sessions.specs.Strict.{NoneFailed, strict_ones}
use Rattle.sessions.specs.declared.strictness.Strictness.{Strictness}

module _ {T : Type 0} (hears : (old new : T) → LineEnd → Option LeftAt → Option Place → List ℕ → List Place → List ℕ → Type 0) where
  -- It was told of a line once: how the line's turn ended, where it was left, the blocks that were undone, which word is the last before the place of its fault,
  -- and where that begins, and of each load that led there where the last word before its place begins in some text, the innermost first.
  pub record HearsTurn (old : T) (turn : Turn) (new : T) : Type 0 where
    pub start : Option Place
    pub word : List ℕ
    pub loads : List Place
    pub read : AreRead turn.place start word
    pub led : AreStarts turn.loads loads
    pub heard : hears old new turn.ending turn.place start word loads turn.undone

  -- It was told of these lines, of each once, one after another, and of no other.
  abbrev pub HearsAll : (old : T) → List Turn → (new : T) → Type 0
  HearsAll old [] new = new ≡ old
  HearsAll old (turn ∷ turns) new = (mid : T) × HearsTurn old turn mid × HearsAll mid turns new

  -- A run that came to its input's end, of each line of which the tracer was told.
  pub record CompletesHeard {D : Type 0} (G : Ghosts D) (opening closing : Forth) (left left' written written' : Option (List ℕ)) (old new : D) (made : List Save) (tracer tracer' : T) : Type 0 where
    pub run : Completes G opening closing left left' written written' old new made
    pub heard : HearsAll tracer run.turns tracer'

  -- A run that broke off, of each line of which the tracer was told but of the one that was cut short.
  pub record BreaksOffHeard {D : Type 0} (G : Ghosts D) (fault : RunFault) (opening closing : Forth) (left left' written written' : Option (List ℕ)) (old new : D) (made : List Save) (tracer tracer' : T) : Type 0 where
    pub run : BreaksOff G fault opening closing left left' written written' old new made
    pub heard : HearsAll tracer run.turns tracer'

  -- A run that ended with the first line that failed, of each line of which the tracer was told, the last one too.
  pub record StopsHeard {D : Type 0} (G : Ghosts D) (opening closing : Forth) (left left' written written' : Option (List ℕ)) (old new : D) (made : List Save) (tracer tracer' : T) : Type 0 where
    pub run : StopsAtFailure G opening closing left left' written written' old new made
    pub heard : HearsAll tracer (run.turns ++ run.last ∷ []) tracer'

  -- ---- a run by how strict it is: no line failed with which it would have ended

  pub record CompletesBy {D : Type 0} (G : Ghosts D) (strictness : Strictness) (opening closing : Forth) (left left' written written' : Option (List ℕ)) (old new : D) (made : List Save) (tracer tracer' : T) : Type 0 where
    pub whole : CompletesHeard G opening closing left left' written written' old new made tracer tracer'
    pub unfailed : NoneFailed (strict_ones strictness whole.run.turns)

  pub record StopsBy {D : Type 0} (G : Ghosts D) (strictness : Strictness) (opening closing : Forth) (left left' written written' : Option (List ℕ)) (old new : D) (made : List Save) (tracer tracer' : T) : Type 0 where
    pub stops : StopsHeard G opening closing left left' written written' old new made tracer tracer'
    -- the last line is one with which it ends
    pub strict : strict_ones strictness (stops.run.turns ++ stops.run.last ∷ []) ≡ stops.run.turns ++ stops.run.last ∷ []

  pub record BreaksOffBy {D : Type 0} (G : Ghosts D) (strictness : Strictness) (fault : RunFault) (opening closing : Forth) (left left' written written' : Option (List ℕ)) (old new : D) (made : List Save) (tracer tracer' : T) : Type 0 where
    pub cut : BreaksOffHeard G fault opening closing left left' written written' old new made tracer tracer'
    pub unfailed : NoneFailed (strict_ones strictness cut.run.turns)

  -- what a run did that ended so
  abbrev pub EndsBy : {D : Type 0} (G : Ghosts D) (strictness : Strictness) (end : Result RunEnd RunFault) (opening closing : Forth) (left left' written written' : Option (List ℕ)) (old new : D)
      (made : List Save) (tracer tracer' : T) → Type 0
  EndsBy G strictness (Ok by.Input) = CompletesBy G strictness
  EndsBy G strictness (Ok by.Failure) = StopsBy G strictness
  EndsBy G strictness (Err fault) = BreaksOffBy G strictness fault
