-- What a call promises: the language's own step, or the fault that the step comes to; and that what is left to do stands
-- through the change.
use Rattle.std.specs.Prelude.{◌≡◌, ℕ, List}
use Rattle.stacks.specs.declared.return_stack.Entry.{Entry}
use Rattle.cell_machine.specs.Fault.{Fault, Name, Protected, Token, DictionaryFull, DefinitionOpen}
use Rattle.cell_machine.specs.Events.{Doing}
use Rattle.cell_machine.specs.Tree.{Trees}
use Rattle.cell_machine.specs.Frames.{Level, around_of}
use Rattle.compiler.specs.Definition.{Adding, Adds, Refuses}
use Rattle.lexicon.specs.declared.language.Lexicon.{Lexicon}
use Rattle.lexicon.specs.declared.language.LexiconRefusal.{LexiconRefusal}
use Rattle.lexicon.specs.declared.language.LexiconRefusal.TheVariants as refusal
use Rattle.lexicon.specs.Language.{Language, forgetting, giving}
use Rattle.lexicon.specs.Stands.{Stands, IsLeft, IsPart}

abbrev pub fault_of : LexiconRefusal → Fault
fault_of refusal.DefinitionOpen = DefinitionOpen
fault_of refusal.Name = Name
fault_of refusal.DictionaryFull = DictionaryFull
fault_of refusal.Protected = Protected
fault_of refusal.Token = Token

-- from one language to the next: what was left to do is still left
pub record Becomes (old new : Lexicon) (x y : Language) : Type 0 where
  pub stands : Stands new y
  pub left : (doing : Doing) (entries : List Entry) (levels : List Level) → IsLeft old x doing entries levels → IsLeft new y doing entries levels

-- what this came to is done
abbrev pub Gives : (old new : Lexicon) (x : Language) → Adding Language → Type 0
Gives old new x step = (y : Language) × ((step ≡ Adds y) × Becomes old new x y)

-- the language's step is done
abbrev pub Goes : (old new : Lexicon) → (Language → Adding Language) → Type 0
Goes old new step = (x : Language) → Stands old x → Gives old new x (step x)

-- it refuses with this fault, and nothing was changed
abbrev pub Stops : (old new : Lexicon) → (Language → Adding Language) → Fault → Type 0
Stops old new step f = ((x : Language) → Stands old x → step x ≡ Refuses f) × (new ≡ old)

-- the same of a part
abbrev pub GivesPart : (old new : Lexicon) (place : ℕ) → Type 0
GivesPart old new place =
    (x : Language) (owner : ℕ) (parts : List Trees) → Stands old x → IsPart old x place owner parts →
    Gives old new x (giving (record { owner = owner; parts = parts }) x)

abbrev pub StopsPart : (old new : Lexicon) (place : ℕ) → Fault → Type 0
StopsPart old new place f =
    ((x : Language) (owner : ℕ) (parts : List Trees) → Stands old x → IsPart old x place owner parts →
    giving (record { owner = owner; parts = parts }) x ≡ Refuses f) × (new ≡ old)

-- FORGET, while this is left to do
abbrev pub Forgets : (old new : Lexicon) → (token : ℕ) → Doing → List Entry → Type 0
Forgets old new token doing entries =
    (x : Language) (levels : List Level) → Stands old x → IsLeft old x doing entries levels →
    (y : Language) × ((forgetting token (around_of levels).running x ≡ Adds y) × Stands new y × IsLeft new y doing entries levels)

abbrev pub Protects : (old new : Lexicon) → (token : ℕ) → Doing → List Entry → Fault → Type 0
Protects old new token doing entries f =
    ((x : Language) (levels : List Level) → Stands old x → IsLeft old x doing entries levels →
    forgetting token (around_of levels).running x ≡ Refuses f) × (new ≡ old)
