-- What a call of the compiler promises: the definition's own step, or the refusal that the step comes to.
use Rattle.std.specs.Prelude.{◌≡◌, ℕ, ◌+◌, ◌<◌, List, [], slice_index, Option, Some, None}
use Rattle.cell_machine.specs.Fault.{Fault, NoDefinition, DefinitionOpen, Unbalanced, CodeFull}
use Rattle.cell_machine.specs.Tree.{TextKind as Kind, Prints, AbortsWith, LoopKind, ByOne, ByTop}
use Rattle.cell_machine.specs.Layout.{Cell, Body}
use Rattle.compiler.specs.declared.definition.CompileRefusal.{CompileRefusal}
use Rattle.compiler.specs.declared.definition.CompileRefusal.TheVariants as refusal
use Rattle.compiler.specs.declared.structures.LoopEnd.{LoopEnd}
use Rattle.compiler.specs.declared.structures.LoopEnd.TheVariants as loop_end
use Rattle.compiler.specs.declared.definition.TextKind.{TextKind}
use Rattle.compiler.specs.declared.definition.TextKind.TheVariants as text_kind
use Rattle.compiler.specs.declared.definition.Compiler.{Compiler}
use Rattle.compiler.specs.Definition.{Definition, Adding, Adds, Refuses, opened, end_definition, body_of}
use Rattle.compiler.specs.Represents.{IsClosed, Holds, used}

abbrev pub fault_of : CompileRefusal → Fault
fault_of refusal.NoDefinition = NoDefinition
fault_of refusal.DefinitionOpen = DefinitionOpen
fault_of refusal.Unbalanced = Unbalanced
fault_of refusal.CodeFull = CodeFull

abbrev pub kind_of : TextKind → Kind
kind_of text_kind.Prints = Prints
kind_of text_kind.AbortsWith = AbortsWith

abbrev pub loop_kind_of : LoopEnd → LoopKind
loop_kind_of loop_end.ByOne = ByOne
loop_kind_of loop_end.ByTop = ByTop

-- what an addition to the open definition comes to
abbrev pub on_open : Option Definition → (Definition → Adding Definition) → Adding Definition
on_open None add = Refuses NoDefinition
on_open (Some d) add = add d

-- what the beginning of a definition comes to
abbrev pub on_closed : Option Definition → Definition → Adding Definition
on_closed None d = Adds d
on_closed (Some open_one) d = Refuses DefinitionOpen

-- the definition lets this be added, and the fields and cells stand for the new one
abbrev pub Added : (old : Compiler) (before : List ℕ) (new : Compiler) (after : List ℕ) → (ℕ → Definition → Adding Definition) → Type 0
Added old before new after add =
    (o : Option Definition) → Holds old before o →
    (d : Definition) × ((on_open o (add (used old)) ≡ Adds d) × Holds new after (Some d))

-- the definition refuses this with the same fault, and nothing was changed
abbrev pub Refused : (old : Compiler) (before : List ℕ) (new : Compiler) (after : List ℕ) → (ℕ → Definition → Adding Definition) → CompileRefusal → Type 0
Refused old before new after add e =
    ((o : Option Definition) → Holds old before o → on_open o (add (used old)) ≡ Refuses (fault_of e)) × (new ≡ old) × (after ≡ before)

-- the cells below a place stay
pub record SameBelow (place : ℕ) (old new : List ℕ) : Type 0 where
  pub same : (y : ℕ) → y < place → slice_index new y ≡ slice_index old y

-- the bodies of all other definitions stay
pub record BodiesStay (old : Compiler) (before : List ℕ) (new : Compiler) (after : List ℕ) : Type 0 where
  pub end : used new ≡ used old
  pub below : SameBelow (used old) before after

-- none was open, and one of this name is now, whatever HERE is
abbrev pub Opened : (old new : Compiler) (name : List ℕ) → Type 0
Opened old new name =
    (code : List ℕ) (o : Option Definition) (here : ℕ) → Holds old code o →
    (on_closed o (opened name here) ≡ Adds (opened name here)) × Holds new code (Some (opened name here))

-- one is open, and nothing was changed
abbrev pub NotOpened : (old new : Compiler) → CompileRefusal → Type 0
NotOpened old new e =
    ((code : List ℕ) (o : Option Definition) (d : Definition) → Holds old code o → on_closed o d ≡ Refuses (fault_of e)) × (new ≡ old)

-- the definition ends: its cells, from the place on, mean its body, and all bodies now end where they end
abbrev pub Finished : (old : Compiler) (before : List ℕ) (new : Compiler) (after : List ℕ) → (place : ℕ) → Type 0
Finished old before new after place =
    (place ≡ used old) × IsClosed new × ((o : Option Definition) → Holds old before o →
    (d : Definition) × ((on_open o (end_definition (used old)) ≡ Adds d) × (used new ≡ place + (body_of d).cells) ×
    Body (Cell after place (used new) []) place (body_of d).parts))
