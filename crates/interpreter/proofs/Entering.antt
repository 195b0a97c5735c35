-- Words and loads that are entered.
use Rattle.std.proofs.Common.{◌≡◌, ℕ, ◌≤◌, List, [], ◌∷◌, Option, Result, Ok, Err, sym, ap, subst, ◌∙◌, arith, refl}
use Rattle.std.specs.Prelude.{OnOk, IfErr, ◌<◌, false, not, ◌&&◌, nat_le, length}
use Rattle.stacks.specs.declared.return_stack.Entry.{Entry}
use Rattle.sector_disk.specs.declared.device.SectorDevice.{Ghosts}
use Rattle.cell_machine.specs.declared.event.MachineFault.{MachineFault}
use Rattle.cell_machine.specs.declared.event.MachineFault.TheVariants as found
use Rattle.cell_machine.specs.declared.event.Work.TheVariants as work
use Rattle.cell_machine.specs.Events.{Doing, Refused, Entered as EnteredIn}
use Rattle.cell_machine.specs.Frames.{Core, Level, Once}
use Rattle.cell_machine.specs.Value.{Outcome, Ends}
use Rattle.interpreter.specs.declared.fault.Fault.{Fault}
use Rattle.lexicon.specs.declared.language.Lexicon.{Lexicon}
use Rattle.interpreter.specs.declared.forth.Forth.{Forth}
use Rattle.lexicon.specs.Language.{Language}
use Rattle.lexicon.specs.Stands.{IsLeft, owner_in}
use Rattle.std.proofs.lemmas.Bool.{lt-ltb, le-ltb, lt-leb, le-leb}
use Rattle.dictionary.specs.System.{compile_only_token}
use Rattle.interpreter.specs.Text.{may_execute}
use Rattle.interpreter.specs.State.{World, Run, with_run}
use Rattle.std.proofs.KnownBytes.{Appends-nil}
use Rattle.journal.specs.Store.{device_of}
use Rattle.block_words.specs.Parts.{store_of}
use Rattle.block_words.specs.declared.buffered_blocks.Blocks.{Blocks}
use Rattle.cell_machine.specs.Fault.{Faults}
use Rattle.interpreter.specs.declared.terminal.Terminal.{Ghosts as TerminalGhosts}
use Rattle.interpreter.specs.Deeds.{nothing}
use Rattle.interpreter.specs.Law.{left}
use Rattle.interpreter.specs.Stops.{fault_of}
use Rattle.interpreter.specs.Representation.{core, device, Represents, RepresentsAfter}
use Rattle.interpreter.specs.ServiceContract.{Altered, Printed, KeepsAndWears, stopped, failed_calls}
use Rattle.interpreter.proofs.Deeds.{before-nothing, after-nothing}
use Rattle.interpreter.proofs.Running.{OnlyNow, maps_same, heard_nothing}
use Rattle.interpreter.specs.RoundContract.{round_of, GoesTo, Entered, RoundComes, RanRound, seen, RepresentsAfterRound}
use Rattle.block_words.specs.Words.{no_wear}

-- a word by itself is never refused
never_refused : (e : MachineFault) (w : ℕ) (entries : List Entry) (stack : List ℕ) → Refused e (work.Primitive w) entries stack → ⊥
never_refused found.StackEmpty w entries stack h = h
never_refused found.StackFull w entries stack h = h
never_refused found.ReturnStack w entries stack h = h
never_refused found.Address w entries stack h = h
never_refused found.Division w entries stack h = h
never_refused found.Steps w entries stack h = h

pub word_entered : {P : Type 0} (r : Result (Unit {0}) MachineFault) (w : ℕ) (entries : List Entry) (stack : List ℕ) → IfErr r (λ e. Refused e (work.Primitive w) entries stack) → OnOk r P → P
word_entered (Ok v) w entries stack never h = h
word_entered (Err e) w entries stack never h = absurd (never_refused e w entries stack never)

-- it stands before what was left
pub left_entered : (l : Lexicon) (x : Language) (w : ℕ) (doing doing' : Doing) (entries entries' : List Entry) (stack stack' : List ℕ) (levels : List Level)
    → EnteredIn l.code (work.Primitive w) doing.pending doing.place entries stack doing'.pending doing'.place entries' stack' → IsLeft l x doing entries levels → IsLeft l x doing' entries' (Once w ∷ levels)
left_entered l x w doing doing' entries entries' stack stack' levels e h = record { lies = e.1 (owner_in x.words) levels h.lies; running = h.running }

-- the line ends before that
pub not_entered : {D : Type 0} {G : Ghosts D} (n : ℕ) {start : Run → Outcome World} {f : Fault} {old new : Forth D G} {levels : List Level} {x : World} → Altered start (Err f) old new levels x → Entered n start (Err f) old new x
not_entered n {start} {f} {old} {new} {levels} {x} h = record { levels = levels; world = h.world; stands = h.stands; goes = h.gives; maps = h.maps; steps = h.steps }

-- ---- what EXECUTE may run

pub may_not_zero : (w : ℕ) (x : World) → w ≡ 0 → false ≡ may_execute w x
may_not_zero w x is = sym (ap (λ b. (b && nat_le w (length x.words)) && not (compile_only_token w)) (le-ltb 0 w (omega (arith, is))))

pub may_not_past : (w : ℕ) (x : World) → 0 < w → length x.words < w → false ≡ may_execute w x
may_not_past w x above past =
    sym (ap (λ b. (b && nat_le w (length x.words)) && not (compile_only_token w)) (lt-ltb 0 w above)
    ∙ ap (λ b. b && not (compile_only_token w)) (lt-leb w (length x.words) past))

pub may_word : (w : ℕ) (x : World) → 0 < w → w ≤ length x.words → not (compile_only_token w) ≡ may_execute w x
may_word w x above within =
    sym (ap (λ b. (b && nat_le w (length x.words)) && not (compile_only_token w)) (lt-ltb 0 w above)
    ∙ ap (λ b. b && not (compile_only_token w)) (le-leb w (length x.words) within))

-- ---- a word that is entered, as a round

goes_comes : (n : ℕ) (start : Run → Outcome World) (result : Result (Unit {0}) Fault) (levels : List Level) (c : Core) (x : World) → GoesTo n start result levels c x → RoundComes n start nothing (round_of (stopped result)) levels c x
goes_comes n start (Ok v) levels c x g = λ r fits. ap start (before-nothing r) ∙ g r ∙ ap (λ r. left n levels c (with_run r x)) (sym (after-nothing r))
goes_comes n start (Err f) levels c x g =
    record { core = g.0; like = g.1; ends = λ r fits. ap start (before-nothing r) ∙ g.2 r ∙ ap (λ r. Ends (Faults (fault_of f)) g.0 (with_run r x)) (sym (after-nothing r)) }

entered_stands : {D : Type 0} {G : Ghosts D} (result : Result (Unit {0}) Fault) (forth : Forth D G) (levels : List Level) (x : World) → RepresentsAfter result forth levels x → RepresentsAfterRound (round_of (stopped result)) forth levels x
entered_stands (Ok v) forth levels x s = s
entered_stands (Err f) forth levels x s = s

entered_printed : (result : Result (Unit {0}) Fault) (o : Option (List ℕ)) → Printed (seen (round_of (stopped result))) o o [] []
entered_printed (Ok v) o = Appends-nil o
entered_printed (Err f) o = Appends-nil o

entered_well : (result : Result (Unit {0}) Fault) → failed_calls (seen (round_of (stopped result))) ≡ 0
entered_well (Ok v) = refl
entered_well (Err f) = refl

module _ {D T : Type 0} (G : Ghosts D) (H : TerminalGhosts T) where
  pub round_entered : OnlyNow G → (n : ℕ) {start : Run → Outcome World} {result : Result (Unit {0}) Fault} (old new : Forth D G) (levels : List Level) {x : World} (t : T)
      → Represents old levels x → new.blocks ≡ old.blocks → Entered n start result old new x → RanRound H n start (round_of (stopped result)) old new t t x
  round_entered only_now n {start} {result} old new levels {x} t stands blocks h = record {
    deed = nothing;
    levels = h.levels;
    world = h.world;
    stands = entered_stands result new h.levels h.world h.stands;
    steps = h.steps;
    comes = λ model. goes_comes n start result h.levels (core new) h.world h.goes;
    heard = heard_nothing H (seen (round_of (stopped result))) t (entered_well result) (entered_printed result (H.output t));
    cause = ap (λ (b : Blocks D G). G.failures (device_of (store_of b))) blocks;
    keeps = λ model.
        subst (λ (b : Blocks D G). KeepsAndWears G x.maps h.world.maps (device old) (device_of (store_of b)) [] no_wear) (sym blocks)
        (subst (λ m. KeepsAndWears G x.maps m (device old) (device old) [] no_wear) (sym h.maps) (maps_same G only_now (store_of old.blocks) x.maps (stands.rests.maps model)));
  }
