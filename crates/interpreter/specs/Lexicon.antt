-- The lexicon's language, as the part of the world that it is.
use Rattle.std.specs.Prelude.{◌≡◌, ℕ, List}
use Rattle.cell_machine.specs.declared.event.Op.{Op}
use Rattle.cell_machine.specs.declared.event.Op.TheVariants as op
use Rattle.cell_machine.specs.Layout.{TextAt, IsAdded}
use Rattle.cell_machine.specs.Calling.{Outside}
use Rattle.cell_machine.specs.Tree.{Trees}
use Rattle.cell_machine.specs.Frames.{Core, Due, Word, Print, AbortWith, Add, Give}
use Rattle.lexicon.specs.declared.language.Lexicon.{Lexicon}
use Rattle.lexicon.specs.Language.{Language}
use Rattle.lexicon.specs.Stands.{IsPart}
use Rattle.lexicon.specs.Running.{meanings}
use Rattle.cell_machine.specs.Value.{Outcome, Did}
use Rattle.compiler.specs.Definition.{Adding, Adds, Refuses}
use Rattle.interpreter.specs.State.{World, fails}

abbrev pub language_of : World → Language
language_of x = record { words = x.words; first = x.first; current = x.current; here = x.here; definition = x.definition }

abbrev pub with_language : Language → World → World
with_language m x = record x { words = m.words; first = m.first; current = m.current; here = m.here; definition = m.definition }

abbrev pub as_it_is : Core → Core
as_it_is c = c

-- what comes of a step of the language, where the core is then as said
abbrev pub stepped : Adding Language → (Core → Core) → Core → World → Outcome World
stepped (Adds m) moved c x = Did (moved c) (with_language m x)
stepped (Refuses f) moved c x = fails f c x

-- the service that an event asks for
abbrev pub IsDue : Lexicon → Language → Op → Due → Type 0
IsDue l x (op.Word w) due = (due ≡ Word w) × (meanings x w ≡ Outside)
IsDue l x (op.Text place) due = (s : List ℕ) × (TextAt l.code place s × (due ≡ Print s))
IsDue l x (op.AbortText place) due = (s : List ℕ) × (TextAt l.code place s × (due ≡ AbortWith s))
IsDue l x (op.Compile w) due = IsAdded w × (due ≡ Add w)
IsDue l x (op.Does place) due = (owner : ℕ) × (parts : List Trees) × (IsPart l x place owner parts × (due ≡ Give owner parts))
