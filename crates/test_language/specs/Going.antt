-- What can be gone on with after an answer of the machine. For the crate's tests.
use Rattle.std.specs.Prelude.{ℕ, List}
use Rattle.stacks.specs.declared.return_stack.Entry.{Entry}
use Rattle.cell_machine.specs.declared.event.Op.{Op}
use Rattle.cell_machine.specs.declared.event.Op.TheVariants as op
use Rattle.cell_machine.specs.declared.event.Event.{Event}
use Rattle.cell_machine.specs.declared.event.Event.TheVariants as event
use Rattle.cell_machine.specs.Tree.{Trees}
use Rattle.cell_machine.specs.Layout.{TextAt}
use Rattle.cell_machine.specs.Frames.{Level}
use Rattle.cell_machine.specs.Events.{Doing}
use Rattle.lexicon.specs.declared.language.Lexicon.{Lexicon}
use Rattle.lexicon.specs.Language.{Language}
use Rattle.lexicon.specs.Stands.{Stands, IsLeft, IsPart}
use Rattle.lexicon.specs.Running.{IsReady}

-- what a service finds in the cells
abbrev pub Finds : Lexicon → Language → Op → Type 0
Finds l x (op.Text place) = (s : List ℕ) × TextAt l.code place s
Finds l x (op.AbortText place) = (s : List ℕ) × TextAt l.code place s
Finds l x (op.Does place) = (owner : ℕ) × (parts : List Trees) × IsPart l x place owner parts
Finds l x _ = Unit {0}

-- after an answer that the caller can go on from
abbrev pub GoesOn : Lexicon → Event → Doing → List Entry → Type 0
GoesOn l event.Done doing entries = IsReady l doing entries
GoesOn l (event.Service o) doing entries = (x : Language) × (levels : List Level) × (Stands l x × IsLeft l x doing entries levels × Finds l x o)
GoesOn l _ doing entries = Unit {0}
