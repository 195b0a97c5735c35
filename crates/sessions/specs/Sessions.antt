-- A session: the lines of an input, one after another.
use Rattle.std.specs.Prelude.{◌≡◌, ◌≢◌, ℕ, ◌+◌, Bool, true, false, List, [], ◌∷◌, ◌++◌, length, Option, Some}
use Rattle.std.specs.List.{AllByRecursion, flat_map}
use Rattle.std.specs.Io.KnownBytes.{Appends, Consumes, IsAtEnd}
use Rattle.sector_disk.specs.Moments.{Elapses}
use Rattle.sector_disk.specs.declared.device.SectorDevice.{Ghosts}
use Rattle.block_words.specs.Words.{Save, Wear, no_wear, add_wear}
use Rattle.block_words.specs.Calls.{WearsAtMost}
use Rattle.interpreter.specs.State.{Forth}
use Rattle.interpreter.specs.Lines.{Turn, Line, Broken}
use Rattle.interpreter.specs.Promise.{HasRisenBy, Keeps}
use Rattle.interpreter.specs.Terminal.{Begins}
use Rattle.interpreter.specs.Law.{IsCalm}
use Rattle.sessions.specs.Cut.{IsFirstLine, IsWhole, line_text}
use Rattle.sessions.specs.Strict.{NoneFailed, is_failed}
use Rattle.sessions.specs.declared.run_fault.RunFault.{RunFault}
use Rattle.sessions.specs.declared.run_fault.RunFault.TheVariants.{Read, Write}

-- what the turns printed, and the saves that they began
abbrev pub output_of : List Turn → List ℕ
output_of turns = flat_map (λ turn. turn.reply) turns

abbrev pub saves_of : List Turn → List Save
saves_of turns = flat_map (λ turn. turn.saves) turns

-- how often the device failed in them
abbrev pub failures_of : List Turn → ℕ
failures_of [] = 0
failures_of (turn ∷ turns) = turn.failures + failures_of turns

-- how much the device may have begun in them
abbrev pub wear_of : List Turn → Wear
wear_of [] = no_wear
wear_of (turn ∷ turns) = add_wear turn.wear (wear_of turns)

-- What the device counts over a line: it failed just as often as its turn says, and began no more than the turn counts.
pub record LineTold {D : Type 0} (G : Ghosts D) (turn : Turn) (old new : D) : Type 0 where
  pub time : Elapses G.time G.left_since old new
  pub cause : HasRisenBy turn.failures (G.failures old) (G.failures new)
  pub wears : WearsAtMost G old new turn.wear

-- A device between each two lines: what it counts from one to the next is told in the line between them.
abbrev pub Told : {D : Type 0} → Ghosts D → (old : D) → List Turn → (new : D) → Type 0
Told G old [] new = new ≡ old
Told {D} G old (turn ∷ turns) new = (mid : D) × LineTold G turn old mid × Told G mid turns new

-- the first line of the input, and what is left after it: the line may take bytes that follow it
pub record FirstTurn (opening : Forth) (input : List ℕ) (turn : Turn) (left : List ℕ) (closing : Forth) : Type 0 where
  pub bytes : List ℕ
  pub rest : List ℕ
  pub first : IsFirstLine input bytes rest
  pub taken : rest ≡ turn.given ++ left
  pub at_end : turn.at_end ≡ true → left ≡ []
  pub line : Line opening (line_text bytes) turn closing

-- the input takes the system from opening to closing in these turns, one for each line
abbrev pub Session : Forth → List ℕ → List Turn → Forth → Type 0
Session opening input [] closing = (input ≡ []) × (closing ≡ opening)
Session opening input (turn ∷ turns) closing =
    (left : List ℕ) × (between : Forth) × FirstTurn opening input turn left between × Session between left turns closing

-- A run that takes a system from what it stood for to what it stands for next: what a stop may leave is kept with the
-- saves that it began, and P holds.
abbrev pub Runs : {D F : Type 0} → Ghosts D → (F → Forth → Type 0) → (F → D) → (old new : F)
    → (Forth → Forth → List Save → Type 0) → Type 0
Runs {D} {F} G stands device old new P =
    (opening : Forth) → stands old opening
    → (closing : Forth) × (made : List Save) × stands new closing
    × Keeps G opening closing (device old) (device new) made × P opening closing made

-- The whole input was read, and the output of its session was written. These saves were begun, and what the device counts
-- was told line by line.
pub record Completes {D : Type 0} (G : Ghosts D) (opening closing : Forth) (left left' written written' : Option (List ℕ)) (old new : D) (made : List Save) : Type 0 where
  pub input : List ℕ
  pub turns : List Turn
  pub session : Session opening input turns closing
  pub read : Consumes left left' input
  pub end : IsAtEnd left'
  pub output : Appends written written' (output_of turns)
  pub saves : made ≡ saves_of turns
  pub told : Told G old turns new

-- ---- a run that ends with the first line that fails

-- whatever session the rest of the input has, the one of the whole input begins with these turns
abbrev pub GoesOn : (opening : Forth) (input : List ℕ) (turns : List Turn) (closing : Forth) (left : Option (List ℕ)) → Type 0
GoesOn opening input turns closing left =
    (rest : List ℕ) (more : List Turn) (end : Forth) → left ≡ Some rest → Session closing rest more end → Session opening (input ++ rest) (turns ++ more) end

-- The last line failed, and none before it. Nothing behind that line was read, and the output of the session up to there was written.
pub record StopsAtFailure {D : Type 0} (G : Ghosts D) (opening closing : Forth) (left left' written written' : Option (List ℕ)) (old new : D) (made : List Save) : Type 0 where
  pub input : List ℕ
  pub turns : List Turn
  pub last : Turn
  pub unfailed : NoneFailed turns
  pub fails : is_failed last ≡ true
  pub session : Session opening input (turns ++ last ∷ []) closing
  pub goes_on : GoesOn opening input (turns ++ last ∷ []) closing left'
  pub read : Consumes left left' input
  pub output : Appends written written' (output_of (turns ++ last ∷ []))
  pub saves : made ≡ saves_of (turns ++ last ∷ [])
  pub told : Told G old (turns ++ last ∷ []) new

-- ---- a run that broke off

-- The reader failed before a line was read whole: nothing of it is run.
pub record NotRun (fault : RunFault) (before : Forth) (bytes printed : List ℕ) (made : List Save) (closing : Forth) : Type 0 where
  pub side : fault ≡ Read
  pub no_feed : AllByRecursion (λ b. b ≢ 10) bytes
  pub printed_none : printed ≡ []
  pub saved_none : made ≡ []
  pub same : closing ≡ before

-- The terminal failed in a line that was read whole: what was printed and the system are left as of that call.
pub record BrokeIn (before : Forth) (bytes : List ℕ) (left' : Option (List ℕ)) (turns : List Turn) (printed : List ℕ) (made : List Save) (closing : Forth) : Type 0 where
  pub turn : Turn
  pub over : Forth
  pub whole : IsWhole bytes left'
  pub only : turns ≡ turn ∷ []
  pub first : FirstTurn before bytes turn [] over
  pub broken : Broken before (line_text first.bytes) turn.given printed first.line.answers made closing

-- A line that was read whole came to its end, and its whole reply was written; then the writer failed to pass it on.
pub record NotFlushed (fault : RunFault) (bytes : List ℕ) (left' : Option (List ℕ)) (turns : List Turn) (over : Forth) (printed : List ℕ) (made : List Save) (closing : Forth) : Type 0 where
  pub side : fault ≡ Write
  pub whole : IsWhole bytes left'
  pub one : length turns ≡ 1
  pub printed_all : printed ≡ output_of turns
  pub saved_all : made ≡ saves_of turns
  pub after : closing ≡ over

-- how a line was cut short
pub data CutShort (fault : RunFault) (before : Forth) (bytes : List ℕ) (left' : Option (List ℕ)) (turns : List Turn) (over : Forth) (printed : List ℕ) (made : List Save) (closing : Forth) : Type 0 where
  InReading : NotRun fault before bytes printed made closing → CutShort fault before bytes left' turns over printed made closing
  InLine : BrokeIn before bytes left' turns printed made closing → CutShort fault before bytes left' turns over printed made closing
  InFlushing : NotFlushed fault bytes left' turns over printed made closing → CutShort fault before bytes left' turns over printed made closing

-- Reader or writer failed. The bytes read so far have a session, as if the input ended there. What was written is the
-- whole replies of all its lines but the last one, and a beginning of that one's reply; and so are the saves.
pub record BreaksOff {D : Type 0} (G : Ghosts D) (fault : RunFault) (opening closing : Forth) (left left' written written' : Option (List ℕ)) (old new : D) (made : List Save) : Type 0 where
  -- the lines that were answered, and the system after them
  pub front : List ℕ
  pub turns : List Turn
  pub between : Forth
  pub answered : Session opening front turns between
  -- the bytes of the line that was cut short, and its turn: none, where the reader failed between two lines
  pub bytes : List ℕ
  pub last : List Turn
  pub over : Forth
  pub session : Session opening (front ++ bytes) (turns ++ last) over
  -- what was printed and saved in it, and the system that it left
  pub printed : List ℕ
  pub begun : List Save
  pub begins : Begins printed (output_of last)
  pub saves : Begins begun (saves_of last)
  pub cut : CutShort fault between bytes left' last over printed begun closing
  -- reader, writer and device
  pub read : Consumes left left' (front ++ bytes)
  pub output : Appends written written' (output_of turns ++ printed)
  pub all_saves : made ≡ saves_of turns ++ begun
  pub told : Told G old (turns ++ last) new

-- What is told line by line is told in all: the device failed as often as all turns say together, and began no more than
-- they count together.
abbrev pub ToldInAll : {D : Type 0} → Ghosts D → Type 0
ToldInAll {D} G =
    (old new : D) (turns : List Turn) → Told G old turns new
    → HasRisenBy (failures_of turns) (G.failures old) (G.failures new) × WearsAtMost G old new (wear_of turns)

-- each turn ended without DEVICE and MEMORY
abbrev pub AreCalm : List Turn → Type 0
AreCalm turns = AllByRecursion (λ turn. IsCalm turn.ending) turns

-- Two sessions of one input, both without DEVICE and MEMORY, are one.
abbrev pub HasOneSession : Type 0
HasOneSession =
    (opening : Forth) (input : List ℕ) (turns turns' : List Turn) (closing closing' : Forth)
    → Session opening input turns closing → Session opening input turns' closing'
    → AreCalm turns → AreCalm turns'
    → (turns ≡ turns') × (closing ≡ closing')
