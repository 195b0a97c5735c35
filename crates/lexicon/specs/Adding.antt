-- A new word: whether it may be added. And, for the contracts of private functions, the kinds of words that have no code.
use Rattle.std.specs.Prelude.{◌≡◌, ℕ, false, List, None}
use Rattle.cell_machine.specs.Fault.{Fault, Name, DictionaryFull}
use Rattle.dictionary.specs.Words.{Kind}
use Rattle.dictionary.specs.Dictionary.{kind_of, add_refusal}
use Rattle.dictionary.specs.declared.words.Kind.{Kind as GivenKind}
use Rattle.dictionary.specs.declared.words.DictionaryFault.{DictionaryFault}
use Rattle.dictionary.specs.declared.words.DictionaryFault.TheVariants as found
use Rattle.compiler.specs.Definition.{Body, Adding, Refuses}
use Rattle.lexicon.specs.declared.language.Lexicon.{Lexicon}
use Rattle.lexicon.specs.Language.{Part, Language, cells_of, with_new_name, adding_word}
use Rattle.lexicon.specs.Stands.{Stands, KindStands, is_primitive}
use Rattle.lexicon.specs.Promise.{Gives}

-- how the dictionary refuses a new word
abbrev pub name_fault : DictionaryFault → Fault
name_fault found.NameLength = Name
name_fault _ = DictionaryFull

-- a word of this name may be added
pub record MayBeAdded (l : Lexicon) (name : List ℕ) : Type 0 where
  pub room : add_refusal l.dictionary name ≡ None
  pub fits : (x : Language) → Stands l x → (step : Adding Language) → with_new_name name x step ≡ step
  pub none : (x : Language) → Stands l x → x.definition ≡ None

pub record MayNotBeAdded (l : Lexicon) (name : List ℕ) (f : Fault) : Type 0 where
  pub refused : (x : Language) → Stands l x → (step : Adding Language) → with_new_name name x step ≡ Refuses f

-- a kind that has no code
pub record IsData (given : Kind ℕ ℕ) (kind : Kind Body Part) : Type 0 where
  pub system : is_primitive kind ≡ false
  pub cells : cells_of kind ≡ 0
  pub stands : (code : List ℕ) (owner_at : ℕ → ℕ) (k p : ℕ) → KindStands code owner_at k p given kind

abbrev pub AddsData : (old new : Lexicon) (name : List ℕ) → GivenKind → Type 0
AddsData old new name given =
    (x : Language) (kind : Kind Body Part) → Stands old x → IsData (kind_of given) kind → Gives old new x (adding_word name kind x)

abbrev pub RefusesData : (old new : Lexicon) (name : List ℕ) → GivenKind → Fault → Type 0
RefusesData old new name given f =
    ((x : Language) (kind : Kind Body Part) → Stands old x → adding_word name kind x ≡ Refuses f) × (new ≡ old)
