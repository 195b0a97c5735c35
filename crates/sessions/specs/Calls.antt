-- What the inner calls of a run leave. Of public promises only that of read_line cites them: how a line was read, or a part of one.
use Rattle.std.specs.Prelude.{◌≡◌, ◌≢◌, ℕ, ◌<◌, ◌⊎◌, List, [], ◌∷◌, ◌++◌, length, Option, Some}
use Rattle.std.specs.List.{AllByRecursion}
use Rattle.std.specs.Io.KnownBytes.{Appends, Consumes}
use Rattle.sector_disk.specs.declared.device.SectorDevice.{Ghosts}
use Rattle.block_words.specs.Words.{Save}
use Rattle.interpreter.specs.State.{Forth}
use Rattle.interpreter.specs.Lines.{Turn}
use Rattle.sessions.specs.Sessions.{FirstTurn, LineTold}

-- the bytes of a line were read, with its line feed or up to the end of the input
pub record ReadsLine (input left : Option (List ℕ)) (bytes : List ℕ) : Type 0 where
  pub no_feed : AllByRecursion (λ b. b ≢ 10) bytes
  pub cut : Consumes input left (bytes ++ 10 ∷ []) ⊎ (Consumes input left bytes × (left ≡ Some []) × (0 < length bytes))

-- the first bytes of a line were read, and no line feed
pub record ReadsPart (input left : Option (List ℕ)) (bytes : List ℕ) : Type 0 where
  pub no_feed : AllByRecursion (λ b. b ≢ 10) bytes
  pub read : Consumes input left bytes

-- One line was read and its reply written. It is the first turn of whatever may follow: nothing, where the end was met.
pub record TurnDone {D : Type 0} (G : Ghosts D) (opening closing : Forth) (input left output written : Option (List ℕ)) (old new : D) (made : List Save) : Type 0 where
  pub turn : Turn
  pub taken : List ℕ
  pub read : Consumes input left taken
  pub reply : Appends output written turn.reply
  pub saves : made ≡ turn.saves
  pub told : LineTold G turn old new
  pub first : (rest : List ℕ) → (left ≡ Some [] → rest ≡ []) → FirstTurn opening (taken ++ rest) turn rest closing
