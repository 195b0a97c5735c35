-- Sessions over blocks in memory: what the program runs where its words give no command.
use Rattle.std.specs.Prelude.{◌≡◌, ◌⊎◌, ℕ, List, Option}
use Rattle.clap.specs.Words.{IsAmong, Kinds}
use Rattle.clap.specs.declared.error.kind.ErrorKind.{ErrorKind}
use Rattle.clap.specs.declared.error.kind.ErrorKind.TheVariants.{DisplayHelp, DisplayVersion}
use Rattle.sector_disk.specs.declared.device.SectorDevice.{Ghosts}
use Rattle.journal.specs.Maps.{fresh}
use Rattle.recovery.specs.Formatted.{blank_blocks}
use Rattle.block_words.specs.Words.{Save}
use Rattle.interpreter.specs.State.{Forth}
use Rattle.interpreter.specs.Lines.{new_forth}
use Rattle.sessions.specs.declared.run_fault.RunFault.{RunFault}
use Rattle.sessions.specs.Sessions.{Completes, BreaksOff}
use Rattle.terminal.specs.Failures.{of_run, status_of}
use Rattle.terminal.specs.declared.failure.Failure.{Failure}
use Rattle.terminal.specs.declared.failure.Failure.TheVariants.{NoMemory}

-- a new system over 32 blank blocks
abbrev pub blank_forth : Forth
blank_forth = new_forth 1000000 (fresh (blank_blocks 32))

-- The whole input was read, and the output of its session was written. No call of the memory fails.
abbrev pub CompletesInMemory : {D : Type 0} → Ghosts D → (left left' written written' : Option (List ℕ)) → Type 0
CompletesInMemory {D} G left left' written written' =
    (closing : Forth) × (made : List Save) × (old : D) × (new : D) × (G.failures old ≡ 0) × (G.failures new ≡ 0)
    × Completes G blank_forth closing left left' written written' old new made

-- The same up to where the reader or the writer failed, as this fault says.
abbrev pub BreaksInMemory : {D : Type 0} → Ghosts D → RunFault → (left left' written written' : Option (List ℕ)) → Type 0
BreaksInMemory {D} G fault left left' written written' =
    (closing : Forth) × (made : List Save) × (old : D) × (new : D) × (G.failures old ≡ 0) × (G.failures new ≡ 0)
    × BreaksOff G fault blank_forth closing left left' written written' old new made

-- What is told where it failed: there was no memory, and nothing was read or written; or the reader or the writer failed.
abbrev pub FailsInMemory : {D : Type 0} → Ghosts D → Failure → (left left' written written' : Option (List ℕ)) → Type 0
FailsInMemory G failure left left' written written' =
    ((failure ≡ NoMemory) × (left' ≡ left) × (written' ≡ written))
    ⊎ ((fault : RunFault) × (failure ≡ of_run fault) × BreaksInMemory G fault left left' written written')

-- The exit status tells such a failure.
abbrev pub EndsInMemory : {D : Type 0} → Ghosts D → (status : ℕ) → (left left' written written' : Option (List ℕ)) → Type 0
EndsInMemory G status left left' written written' =
    (failure : Failure) × (status ≡ status_of failure) × FailsInMemory G failure left left' written written'

-- help was asked for
abbrev pub IsHelp : ErrorKind → Type 0
IsHelp kind = (kind ≡ DisplayHelp) ⊎ (kind ≡ DisplayVersion)

-- among these reasons for which words are refused is that they ask for help
abbrev pub AsksForHelp : Kinds → Type 0
AsksForHelp kinds = IsAmong DisplayHelp kinds ⊎ IsAmong DisplayVersion kinds

-- help was shown, or the output failed
abbrev pub EndsHelp : (status : ℕ) → Type 0
EndsHelp status = (status ≡ 0) ⊎ (status ≡ 4)
