-- What stands ready to be run stays so.
use Rattle.std.proofs.Common.{ℕ, List, ◌∷◌, sym, subst, Result, Ok, Err}
use Rattle.std.specs.Prelude.{OnOk, IfErr}
use Rattle.stacks.specs.declared.return_stack.Entry.{Entry}
use Rattle.cell_machine.specs.Fault.{Fault}
use Rattle.cell_machine.specs.Events.{Doing}
use Rattle.compiler.specs.Definition.{Adding}
use Rattle.lexicon.specs.declared.language.Lexicon.{Lexicon}
use Rattle.lexicon.specs.Language.{Language}
use Rattle.lexicon.specs.Promise.{Goes, Stops, GivesPart, StopsPart}
use Rattle.lexicon.specs.Stands.{Stands, IsLeft}
use Rattle.lexicon.specs.Running.{IsReady, Runs, AsksFor}
use Rattle.test_language.specs.Going.{Finds, GoesOn}
use Rattle.cell_machine.specs.declared.event.Op.{Op}
use Rattle.cell_machine.specs.declared.event.Op.TheVariants as op
use Rattle.cell_machine.specs.declared.event.Event.{Event}
use Rattle.cell_machine.specs.declared.event.Event.TheVariants as event
use Rattle.cell_machine.specs.Frames.{Core, Level, Once, Next}
use Rattle.cell_machine.specs.Events.{Entered, Refused as MachineRefused}
use Rattle.cell_machine.specs.declared.event.MachineFault.{MachineFault}
use Rattle.cell_machine.specs.declared.event.MachineFault.TheVariants as found
use Rattle.cell_machine.specs.declared.event.Work.TheVariants as work

pub kept : {E : Type 0} (old new : Lexicon) (step : Language → Adding Language) (fault : E → Fault) (doing : Doing) (entries : List Entry) (r : Result (Unit {0}) E) → OnOk r (Goes old new step) → IfErr r (λ e. Stops old new step (fault e)) → IsReady old doing entries → IsReady new doing entries
kept old new step fault doing entries (Ok v) goes stops ready =
    let g = goes ready.0 ready.2.0 in (g.0, ready.1, (g.1.1.stands, g.1.1.left doing entries ready.1 ready.2.1))
kept old new step fault doing entries (Err e) goes stops ready =
    subst (λ l. IsReady l doing entries) (sym stops.1) ready

-- the same after a part is given
pub given : {E : Type 0} (old new : Lexicon) (place : ℕ) (fault : E → Fault) (doing : Doing) (entries : List Entry) (r : Result (Unit {0}) E) →
    OnOk r (GivesPart old new place) → IfErr r (λ e. StopsPart old new place (fault e)) →
    (x : Language) (levels : List Level) → Stands old x → IsLeft old x doing entries levels → Finds old x (op.Does place) → IsReady new doing entries
given old new place fault doing entries (Ok v) gives stops x levels stands left found =
    let g = gives x found.0 found.1 stands found.2 in (g.0, levels, (g.1.1.stands, g.1.1.left doing entries levels left))
given old new place fault doing entries (Err e) gives stops x levels stands left found =
    subst (λ l. IsReady l doing entries) (sym stops.1) (x, levels, (stands, left))

pub goes_on : (l : Lexicon) (e : Event) (doing doing' : Doing) (entries entries' : List Entry) (before after : Core) → Runs l e doing entries before doing' entries' after → IsReady l doing entries → GoesOn l e doing' entries'
goes_on l event.Done doing doing' entries entries' before after runs ready =
    let r = runs ready.0 ready.1 ready.2.0 ready.2.1 in (ready.0, r.1.0, (ready.2.0, r.1.1.0))
goes_on l (event.Service o) doing doing' entries entries' before after runs ready =
    let r = runs ready.0 ready.1 ready.2.0 ready.2.1 in (ready.0, r.1.0, (ready.2.0, r.1.1.0, finds o _ r.1.0 after r.1.1.1))
  where
    finds : (o : Op) (next : Next) (levels : List Level) (c : Core) → AsksFor l ready.0 o next levels c → Finds l ready.0 o
    finds (op.Word w) next levels c a = tt
    finds (op.Text place) next levels c a = (a.0, a.1.0)
    finds (op.AbortText place) next levels c a = (a.0, a.1.0)
    finds (op.Compile w) next levels c a = tt
    finds (op.Does place) next levels c a = (a.0, a.1, a.2.0)
goes_on l (event.Fault f) doing doing' entries entries' before after runs ready = tt
goes_on l event.Quit doing doing' entries entries' before after runs ready = tt
goes_on l event.Abort doing doing' entries entries' before after runs ready = tt

pub entered : (l : Lexicon) (w : ℕ) (doing doing' : Doing) (entries entries' : List Entry) (stack stack' : List ℕ) → Entered l.code (work.Primitive w) doing.pending doing.place entries stack doing'.pending doing'.place entries' stack' → IsReady l doing entries → IsReady l doing' entries'
entered l w doing doing' entries entries' stack stack' e ready =
    (ready.0, Once w ∷ ready.1, (ready.2.0, record { lies = e.1 _ ready.1 ready.2.1.lies; running = ready.2.1.running }))

-- a word by itself is never refused
never_refused : (f : MachineFault) (w : ℕ) (entries : List Entry) (stack : List ℕ) → MachineRefused f (work.Primitive w) entries stack → ⊥
never_refused found.StackEmpty w entries stack r = r
never_refused found.StackFull w entries stack r = r
never_refused found.ReturnStack w entries stack r = r
never_refused found.Address w entries stack r = r
never_refused found.Division w entries stack r = r
never_refused found.Steps w entries stack r = r

pub entered_word : (l : Lexicon) (w : ℕ) (doing doing' : Doing) (entries entries' : List Entry) (stack stack' : List ℕ) (r : Result (Unit {0}) MachineFault) → OnOk r ((code : List ℕ) → Entered code (work.Primitive w) doing.pending doing.place entries stack doing'.pending doing'.place entries' stack') → IfErr r (λ e. MachineRefused e (work.Primitive w) entries stack) → IsReady l doing entries → IsReady l doing' entries'
entered_word l w doing doing' entries entries' stack stack' (Ok v) a b ready =
    entered l w doing doing' entries entries' stack stack' (a l.code) ready
entered_word l w doing doing' entries entries' stack stack' (Err e) a b ready = absurd (never_refused e w entries stack b)
