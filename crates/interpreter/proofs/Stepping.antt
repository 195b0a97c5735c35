-- Services that are a step of the language.
use Rattle.std.proofs.Common.{◌≡◌, ◌≤◌, true, false, List, Option, Some, None, Ok, Err, refl, sym, ap, subst, ◌∙◌}
use Rattle.std.specs.Prelude.{is_some, is_none}
use Rattle.sector_disk.specs.declared.device.SectorDevice.{Ghosts}
use Rattle.cell_machine.specs.Fault as fault
use Rattle.cell_machine.specs.Fault.{NoDefinition, DefinitionOpen, Faults}
use Rattle.cell_machine.specs.Frames.{Core, Level}
use Rattle.cell_machine.specs.Value.{Outcome, Did, Ends}
use Rattle.compiler.specs.Definition.{Definition, Adding, Refuses}
use Rattle.lexicon.specs.declared.language.Lexicon.{Lexicon}
use Rattle.lexicon.specs.Language.{Language}
use Rattle.lexicon.specs.Promise.{Goes, Stops, Gives}
use Rattle.interpreter.specs.declared.fault.Fault.{Fault}
use Rattle.interpreter.specs.declared.forth.Forth.{Forth}
use Rattle.interpreter.specs.State.{World, Run, with_run, needing}
use Rattle.interpreter.specs.Stops.{fault_of}
use Rattle.interpreter.specs.Lexicon.{language_of, with_language, stepped}
use Rattle.interpreter.specs.Compiling.{definition_or, in_definition}
use Rattle.interpreter.specs.Naming.{none_open}
use Rattle.interpreter.specs.Representation.{core, RepresentsIn}
use Rattle.interpreter.specs.ServiceContract.{Altered}
use Rattle.interpreter.proofs.Altering.{refused, went, becoming}

-- ---- whether a definition is open

pub open-no : (c : Core) (x : World) (go : Definition → Outcome World) → is_some x.definition ≡ false → in_definition c x go ≡ Ends (Faults NoDefinition) c x
open-no c x go is = by x.definition is
  where
    by : (o : Option Definition) → is_some o ≡ false → definition_or o c x go ≡ Ends (Faults NoDefinition) c x
    by None is = refl
    by (Some d) is = absurd (let no : true ≡ false = is in cc)

pub open-yes : (c : Core) (x : World) (goes : Outcome World) → is_some x.definition ≡ true → in_definition c x (λ d. goes) ≡ goes
open-yes c x goes is = by x.definition is
  where
    by : (o : Option Definition) → is_some o ≡ true → definition_or o c x (λ d. goes) ≡ goes
    by None is = absurd (let no : false ≡ true = is in cc)
    by (Some d) is = refl

pub none-no : (c : Core) (x : World) (go : Core → Outcome World) → is_some x.definition ≡ true → none_open c x go ≡ Ends (Faults DefinitionOpen) c x
none-no c x go is = by x.definition is
  where
    by : (o : Option Definition) → is_some o ≡ true → needing (is_none o) DefinitionOpen c x go ≡ Ends (Faults DefinitionOpen) c x
    by None is = absurd (let no : false ≡ true = is in cc)
    by (Some d) is = refl

pub none-yes : (c : Core) (x : World) (go : Core → Outcome World) → is_some x.definition ≡ false → none_open c x go ≡ go c
none-yes c x go is = by x.definition is
  where
    by : (o : Option Definition) → is_some o ≡ false → needing (is_none o) DefinitionOpen c x go ≡ go c
    by None is = refl
    by (Some d) is = absurd (let no : true ≡ false = is in cc)

-- ---- a step of the language

module _ {D : Type 0} {G : Ghosts D} where
  -- it is done
  pub gave_done : {start : Run → Outcome World} (old new : Forth D G) {levels : List Level} {x : World} (lexicon : Lexicon) (step : Adding Language) (moved : Core → Core) (c : Core)
      → RepresentsIn lexicon new.machine new.returns new.picture new.blocks new.loads levels x → Gives lexicon new.lexicon (language_of x) step
      → ((r : Run) → start r ≡ stepped step moved c (with_run r x)) → moved c ≡ core new → new.steps ≤ old.steps
      → Altered start (Ok tt) old new levels x
  gave_done {start} old new {levels} {x} lexicon step moved c stands g same is less =
      went new (with_language g.0 x) (becoming g.0 stands g.1.1)
      (λ r. same r ∙ ap (λ a. stepped a moved c (with_run r x)) g.1.0 ∙ ap (λ c. Did c (with_run r (with_language g.0 x))) is) refl less

  pub step_done : {start : Run → Outcome World} (old new : Forth D G) {levels : List Level} {x : World} (lexicon : Lexicon) (step : Language → Adding Language) (moved : Core → Core) (c : Core)
      → RepresentsIn lexicon new.machine new.returns new.picture new.blocks new.loads levels x → Goes lexicon new.lexicon step
      → ((r : Run) → start r ≡ stepped (step (language_of x)) moved c (with_run r x)) → moved c ≡ core new → new.steps ≤ old.steps
      → Altered start (Ok tt) old new levels x
  step_done {start} old new {levels} {x} lexicon step moved c stands goes same is less =
      gave_done old new lexicon (step (language_of x)) moved c stands (goes (language_of x) stands.rests.meant) same is less

  -- it is refused
  pub gave_refused : {start : Run → Outcome World} {f : Fault} (old new : Forth D G) {levels : List Level} {x : World} (lexicon : Lexicon) (step : Adding Language) (moved : Core → Core) (c : Core) {e : fault.Fault}
      → RepresentsIn lexicon new.machine new.returns new.picture new.blocks new.loads levels x → step ≡ Refuses e → new.lexicon ≡ lexicon → fault_of f ≡ e
      → ((r : Run) → start r ≡ stepped step moved c (with_run r x)) → c.space ≡ new.space → new.steps ≤ old.steps
      → Altered start (Err f) old new levels x
  gave_refused {start} {f} old new {levels} {x} lexicon step moved c {e} stands refuses kept name same is less =
      refused new (subst (λ (l : Lexicon). RepresentsIn l new.machine new.returns new.picture new.blocks new.loads levels x) (sym kept) stands) c is
      (λ r. same r ∙ ap (λ a. stepped a moved c (with_run r x)) refuses ∙ ap (λ e. Ends (Faults e) c (with_run r x)) (sym name)) less

  pub step_refused : {start : Run → Outcome World} {f : Fault} (old new : Forth D G) {levels : List Level} {x : World} (lexicon : Lexicon) (step : Language → Adding Language) (moved : Core → Core) (c : Core) {e : fault.Fault}
      → RepresentsIn lexicon new.machine new.returns new.picture new.blocks new.loads levels x → Stops lexicon new.lexicon step e → fault_of f ≡ e
      → ((r : Run) → start r ≡ stepped (step (language_of x)) moved c (with_run r x)) → c.space ≡ new.space → new.steps ≤ old.steps
      → Altered start (Err f) old new levels x
  step_refused {start} {f} old new {levels} {x} lexicon step moved c {e} stands stops name same is less =
      gave_refused old new lexicon (step (language_of x)) moved c stands (stops.0 (language_of x) stands.rests.meant) stops.1 name same is less

pub closed : (o : Option Definition) → is_some o ≡ false → o ≡ None
closed None is = refl
closed (Some d) is = absurd (let no : true ≡ false = is in cc)
