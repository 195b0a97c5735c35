-- Services that take their operands first.
use Rattle.std.proofs.Common.{◌≡◌, ℕ, ◌≤◌, List, Result, Err, sym, ap, subst, ◌∙◌, arith}
use Rattle.sector_disk.specs.declared.device.SectorDevice.{Ghosts}
use Rattle.cell_machine.specs.Fault.{Faults}
use Rattle.cell_machine.specs.Frames.{Core, Level}
use Rattle.cell_machine.specs.Value.{Outcome, Ends}
use Rattle.interpreter.specs.declared.terminal.Terminal.{Ghosts as TerminalGhosts}
use Rattle.interpreter.specs.declared.fault.Fault.{Fault}
use Rattle.interpreter.specs.declared.fault.Stop.{Stop}
use Rattle.interpreter.specs.declared.fault.Stop.TheVariants as stop
use Rattle.interpreter.specs.declared.forth.Forth.{Forth}
use Rattle.interpreter.specs.State.{World, Run, with_run}
use Rattle.interpreter.specs.Stops.{fault_of}
use Rattle.interpreter.specs.Representation.{core, Represents}
use Rattle.interpreter.specs.ServiceContract.{Ran}
use Rattle.interpreter.proofs.Altering.{refused}
use Rattle.interpreter.proofs.Running.{OnlyNow, quiet, ran_as}

module _ {D : Type 0} {G : Ghosts D} where
  -- another data stack
  abbrev pub OnlyStack : (old mid : Forth D G) → Type 0
  OnlyStack old mid = mid ≡ record old { stack = mid.stack }

  pub stands_popped : (old mid : Forth D G) {levels : List Level} {x : World} → OnlyStack old mid → Represents old levels x → Represents mid levels x
  stands_popped old mid {levels} {x} rest stands = subst (λ (f : Forth D G). Represents f levels x) (sym rest) stands

  pub core_popped : (old mid : Forth D G) → OnlyStack old mid → core mid ≡ record (core old) { stack = mid.stack }
  core_popped old mid rest = ap (λ (f : Forth D G). core f) rest

  pub blocks_popped : (old mid : Forth D G) → OnlyStack old mid → mid.blocks ≡ old.blocks
  blocks_popped old mid rest = ap (λ (f : Forth D G). f.blocks) rest

module _ {D T : Type 0} (G : Ghosts D) (H : TerminalGhosts T) where
  -- it is refused
  pub ran_refused : OnlyNow G → {start : Run → Outcome World} {f : Fault} (old new : Forth D G) (t : T) {levels : List Level} {x : World}
      → Represents old levels x → OnlyStack old new → (said : Core) → said.space ≡ old.space → ((r : Run) → start r ≡ Ends (Faults (fault_of f)) said (with_run r x))
      → Ran H start (Err (stop.Fault f)) old new t t levels x
  ran_refused only_now {start} {f} old new t {levels} {x} stands rest said same ends =
      quiet G H only_now {result = Err f} old new t stands (ap (λ (f : Forth D G). f.blocks) rest)
      (refused new (stands_popped old new rest stands) said (same ∙ sym (ap (λ (f : Forth D G). f.space) rest)) ends (omega (arith, ap (λ (f : Forth D G). f.steps) rest)))

  -- it paid, and then it is refused
  pub ran_refused_paid : OnlyNow G → {start : Run → Outcome World} {f : Fault} (old mid : Forth D G) (steps : ℕ) (t : T) {levels : List Level} {x : World}
      → Represents old levels x → OnlyStack old mid → steps ≤ mid.steps → (said : Core) → said.space ≡ old.space → ((r : Run) → start r ≡ Ends (Faults (fault_of f)) said (with_run r x))
      → Ran H start (Err (stop.Fault f)) old (record mid { steps = steps }) t t levels x
  ran_refused_paid only_now {start} {f} old mid steps t {levels} {x} stands rest fewer said same ends =
      quiet G H only_now {result = Err f} old (record mid { steps = steps }) t stands (ap (λ (f : Forth D G). f.blocks) rest)
      (refused (record mid { steps = steps }) (stands_popped old mid rest stands) said (same ∙ sym (ap (λ (f : Forth D G). f.space) rest)) ends (omega (arith, fewer, ap (λ (f : Forth D G). f.steps) rest)))

  -- it goes on with what is left on the stack
  pub ran_popped : {start : Run → Outcome World} (start' : Run → Outcome World) {result : Result (Unit {0}) Stop} (old mid new : Forth D G) {t t' : T} {levels : List Level} {x : World}
      → OnlyStack old mid → ((r : Run) → start' r ≡ start r) → Ran H start result mid new t t' levels x → Ran H start' result old new t t' levels x
  ran_popped {start} start' {result} old mid new {t} {t'} {levels} {x} rest same ran =
      ran_as H start' old same (omega (arith, ap (λ (f : Forth D G). f.steps) rest)) (ap (λ (f : Forth D G). f.blocks) rest) ran
