-- What a round at the text comes to: a word of the stream is done, or the text is at its end.
use Rattle.std.specs.Prelude.{◌≡◌, ℕ, ◌≤◌, ◌/◌, ◌%◌, List, [], ◌∷◌, Result, Ok, Err}
use Rattle.sector_disk.specs.declared.device.SectorDevice.{Ghosts}
use Rattle.block_words.specs.Words.{Answer, Save, Wear}
use Rattle.cell_machine.specs.Fault.{Faults}
use Rattle.cell_machine.specs.Frames.{Core, Level, Load, Around, charge, branch, around_of}
use Rattle.cell_machine.specs.Value.{Outcome, Did, Ends, and_then, word_value}
use Rattle.interpreter.specs.declared.fault.Fault.{Fault}
use Rattle.interpreter.specs.declared.interpreting.Round.{Round}
use Rattle.interpreter.specs.declared.interpreting.Round.TheVariants.{GoesOn, Over}
use Rattle.interpreter.specs.declared.forth.Forth.{Forth}
use Rattle.interpreter.specs.Deeds.{asking}
use Rattle.interpreter.specs.Law.{left}
use Rattle.interpreter.specs.Promise.{HasRisenBy}
use Rattle.interpreter.specs.State.{World, Run, with_run, without_load, set_cell, to_in_cell}
use Rattle.interpreter.specs.Stops.{fault_of}
use Rattle.interpreter.specs.Streams.{known}
use Rattle.interpreter.specs.Text.{serve, back, treat, with_number}
use Rattle.lexicon.specs.Kinds.{is_immediate}
use Rattle.interpreter.specs.Compiling.{compile_word}
use Rattle.dictionary.specs.Words.{entry}
use Rattle.interpreter.specs.Representation.{core, device, HasModel}
use Rattle.interpreter.specs.ServiceContract.{KeepsAndWears, stopped}
use Rattle.interpreter.specs.RoundContract.{RoundComes, RepresentsAfterRound}
use Rattle.interpreter.specs.Looking.{Seen}

-- what comes at the end of the text: the line is over, or what the load stood in goes on
abbrev pub after_text : ℕ → List Level → Core → World → Outcome World
after_text n (Load blk to_in ∷ levels) c x = left n levels (back blk to_in c) x
after_text n levels c x = Did c x

-- a word that was found while words are compiled
abbrev pub found_compiling : ℕ → ℕ → Around → Core → World → Outcome World
found_compiling n w a c x =
    branch (is_immediate (entry x.words w)) c (λ c. word_value n (λ a due c x. serve n a due c x) a w c x) (λ c. compile_word w c x)

-- both cells of a double number
abbrev pub with_double : ℕ → Core → World → Outcome World
with_double d c x = and_then (with_number (d % 65536) c x) (λ c x. with_number (d / 65536) c x)

-- what comes of a word of the stream, found or none, and of what is left
abbrev pub treated : ℕ → List Level → List ℕ → Core → World → Outcome World
treated n levels word c x =
    and_then (treat n (λ a due c x. serve n a due c x) (known x word) word (around_of levels) c x) (λ c x. left n levels c x)

-- the next word is paid for and done; without one the text is at its end
abbrev pub word_round : ℕ → List Level → List ℕ → (Core → Core) → Core → World → Outcome World
word_round n levels [] moved c x = after_text n levels (moved c) (without_load x)
word_round n levels (b ∷ word) moved c x =
    charge 1 c (λ e c. Ends e c x) (λ c. treated n levels (b ∷ word) (moved c) x)

-- the same of a word that was looked at
abbrev pub seen_round : ℕ → List Level → Seen → Core → World → Outcome World
seen_round n levels seen c x = word_round n levels seen.bytes (λ c. set_cell to_in_cell seen.behind c) c x

-- what comes of the line, where neither terminal nor device is reached
abbrev pub PassesTo : (n : ℕ) → (start : Run → Outcome World) → Result Round Fault → List Level → Core → World → Type 0
PassesTo n start (Ok GoesOn) levels c x = (r : Run) → start r ≡ left n levels c (with_run r x)
PassesTo n start (Ok Over) levels c x = (r : Run) → start r ≡ Did c (with_run r x)
PassesTo n start (Err f) levels c x =
    (said : Core) × (said.space ≡ c.space) × ((r : Run) → start r ≡ Ends (Faults (fault_of f)) said (with_run r x))

module _ {D : Type 0} {G : Ghosts D} where
  -- A round that reaches neither terminal nor device.
  pub record Passed (n : ℕ) (start : Run → Outcome World) (result : Result Round Fault) (old new : Forth D G) (x : World) : Type 0 where
    pub levels : List Level
    pub world : World
    pub stands : RepresentsAfterRound (stopped result) new levels world
    pub goes : PassesTo n start result levels (core new) world
    pub maps : world.maps ≡ x.maps
    pub steps : new.steps ≤ old.steps

  -- A round that may reach the device, and no terminal.
  pub record Advanced (n : ℕ) (start : Run → Outcome World) (result : Result Round Fault) (old new : Forth D G) (x : World) : Type 0 where
    pub answers : List Answer
    pub failures : ℕ
    pub wear : Wear
    pub saves : List Save
    pub levels : List Level
    pub world : World
    pub stands : RepresentsAfterRound (stopped result) new levels world
    pub steps : new.steps ≤ old.steps
    pub comes : HasModel old → RoundComes n start (asking answers failures wear saves) (stopped result) levels (core new) world
    pub cause : HasRisenBy failures (G.failures (device old)) (G.failures (device new))
    pub keeps : HasModel old → KeepsAndWears G x.maps world.maps (device old) (device new) saves wear
