-- The words of a Forth system with the bodies that they run, the vocabularies, HERE, and the definition that is open:
-- what they are, and how each word on them changes them.
use Rattle.std.specs.Prelude.{ℕ, ◌+◌, Bool, true, false, not, ◌&&◌, nat_lt, if◌then◌else◌, is_some, List, [], ◌∷◌, ◌++◌, length, Option, Some, None}
use Rattle.cell_machine.specs.Fault.{Token, Name, Protected, DictionaryFull, DefinitionOpen}
use Rattle.cell_machine.specs.Tree.{Trees}
use Rattle.dictionary.specs.Words.{Word, Kind, Colon, forth_token, system_count, most_words, is_name, entry, older, kept, with_immediate, with_part}
use Rattle.dictionary.specs.System.{first_words}
use Rattle.compiler.specs.Definition.{Body, Definition, Adding, Adds, Refuses, opened, body_of, end_definition}
use Rattle.compiler.specs.Promise.{on_open}

-- what DOES> gave a word: the parts, and the word that they belong to
pub record Part : Type 0 where
  pub owner : ℕ
  pub parts : List Trees

abbrev pub ForthWord : Type 0
ForthWord = Word Body Part

-- the code cells of all bodies
abbrev pub cells_of : Kind Body Part → ℕ
cells_of (Colon body) = body.cells
cells_of _ = 0

abbrev pub used_cells : List ForthWord → ℕ
used_cells [] = 0
used_cells (w ∷ words) = cells_of w.kind + used_cells words

pub record Language : Type 0 where
  pub words : List ForthWord
  -- the first vocabulary of the search, and the compilation vocabulary
  pub first : ℕ
  pub current : ℕ
  pub here : ℕ
  pub definition : Option Definition

-- where data fields begin, and the last address at which HERE may stand
abbrev pub first_here : ℕ
first_here = 1280

abbrev pub last_here : ℕ
last_here = 60928

-- where PAD is, and so where a picture ends
abbrev pub pad_at : ℕ → ℕ
pad_at here = here + 324

-- the system words alone
abbrev pub new_language : Language
new_language =
    record { words = first_words; first = forth_token; current = forth_token; here = first_here; definition = None }

-- the words whose bodies run are all older
abbrev pub all_below : ℕ → List ℕ → Bool
all_below token [] = true
all_below token (w ∷ running) = nat_lt w token && all_below token running

-- ---- what words on the language come to: the language after them, or a fault

abbrev pub none_open : Language → Adding Language → Adding Language
none_open x step = if is_some x.definition then Refuses DefinitionOpen else step

-- DEFINITION OPEN, NAME, DICTIONARY FULL
abbrev pub with_new_name : List ℕ → Language → Adding Language → Adding Language
with_new_name name x step =
    none_open x (if not (is_name name) then Refuses Name else
    (if nat_lt (length x.words) most_words then step else Refuses DictionaryFull))

abbrev pub with_word : List ℕ → Kind Body Part → Language → Language
with_word name kind x =
    record x { words = x.words ++ record { name = name; vocabulary = x.current; immediate = false; here = x.here; kind = kind } ∷ [] }

-- a word with a data field or none, or a constant, or a vocabulary
abbrev pub adding_word : List ℕ → Kind Body Part → Language → Adding Language
adding_word name kind x = with_new_name name x (Adds (with_word name kind x))

-- a definition of this name is open
abbrev pub begun : List ℕ → Language → Language
begun name x = record x { first = x.current; definition = Some (opened name x.here) }

-- :
abbrev pub beginning : List ℕ → Language → Adding Language
beginning name x = with_new_name name x (Adds (begun name x))

-- one thing more in the open definition
abbrev pub with_definition : Language → Adding Definition → Adding Language
with_definition x (Adds d) = Adds (record x { definition = Some d })
with_definition x (Refuses f) = Refuses f

abbrev pub changing : (ℕ → Definition → Adding Definition) → Language → Adding Language
changing add x = with_definition x (on_open x.definition (add (used_cells x.words)))

-- the definition's word is added
abbrev pub with_ended : Definition → Language → Language
with_ended d x =
    record x {
      words = x.words ++ record { name = d.name; vocabulary = x.current; immediate = false; here = d.here; kind = Colon (body_of d) } ∷ [];
      definition = None;
    }

abbrev pub ended_or : Language → Adding Definition → Adding Language
ended_or x (Adds d) = Adds (with_ended d x)
ended_or x (Refuses f) = Refuses f

-- ;
abbrev pub ending : Language → Adding Language
ending x = ended_or x (on_open x.definition (end_definition (used_cells x.words)))

abbrev pub dropped : Language → Language
dropped x = record x { definition = None }

-- IMMEDIATE
abbrev pub marking : Language → Adding Language
marking x =
    none_open x (if nat_lt system_count (length x.words) then Adds (record x { words = with_immediate x.words }) else Refuses Protected)

-- the parts after a DOES> go to the most recent word
abbrev pub given_or : Language → Option (List ForthWord) → Adding Language
given_or x None = Refuses Token
given_or x (Some words) = Adds (record x { words = words })

abbrev pub giving : Part → Language → Adding Language
giving p x = none_open x (given_or x (with_part x.words p))

-- FORGET, while these words' bodies run
abbrev pub forgotten : ℕ → Option ForthWord → Language → Language
forgotten token None x = x
forgotten token (Some w) x = record x { words = older x.words token; here = w.here; first = kept token x.first }

abbrev pub forgetting : (token : ℕ) → List ℕ → Language → Adding Language
forgetting token running x =
    none_open x (if nat_lt system_count token && nat_lt x.current token && all_below token running then
    Adds (forgotten token (entry x.words token) x) else Refuses Protected)
