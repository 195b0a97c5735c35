-- What dictionary, cells and compiler say of the language.
use Rattle.std.specs.Prelude.{◌≡◌, ℕ, suc, ◌+◌, ◌<◌, ◌≤◌, Bool, true, false, nat_lt, nat_le, if◌then◌else◌, List, [], ◌∷◌, length, Option, Some, None}
use Rattle.stacks.specs.declared.return_stack.Entry.{Entry}
use Rattle.cell_machine.specs.Frames.{Level}
use Rattle.cell_machine.specs.Levels.{Left}
use Rattle.cell_machine.specs.Events.{BodyAt, Doing}
use Rattle.cell_machine.specs.Staying.{IsBefore, RunsBefore}
use Rattle.cell_machine.specs.Tree.{Trees}
use Rattle.dictionary.specs.Words.{Kind, Primitive, Colon, Created, Constant, Vocabulary, system_count, most_words, is_name}
use Rattle.dictionary.specs.Dictionary.{Named}
use Rattle.compiler.specs.Definition.{Body, Definition}
use Rattle.compiler.specs.Represents.{Holds, used}
use Rattle.lexicon.specs.declared.language.Lexicon.{Lexicon}
use Rattle.lexicon.specs.Language.{Part, ForthWord, Language, cells_of, used_cells, first_here, last_here}

-- Bodies lie one after another in the order of their words. Which word's body has cell y, where the body of the first of
-- these words, of this token, would begin at p; 0 where none has it.
abbrev pub owner_from : (token p : ℕ) → List ForthWord → ℕ → ℕ
owner_from token p [] y = 0
owner_from token p (w ∷ words) y =
    if nat_lt y (p + cells_of w.kind) then token else owner_from (suc token) (p + cells_of w.kind) words y

abbrev pub owner_in : List ForthWord → ℕ → ℕ
owner_in words y = owner_from 1 0 words y

-- an address at which HERE may stand
pub record IsHere (here : ℕ) : Type 0 where
  pub from : first_here ≤ here
  pub most : here ≤ last_here

abbrev pub is_primitive : Kind Body Part → Bool
is_primitive Primitive = true
is_primitive _ = false

module _ (code : List ℕ) (owner_at : ℕ → ℕ) where
  -- the word with token k, whose body would begin at p: a body and a part are named by their places
  abbrev pub KindStands : (k p : ℕ) → Kind ℕ ℕ → Kind Body Part → Type 0
  KindStands k p Primitive Primitive = Unit {0}
  KindStands k p (Colon place) (Colon body) = (place ≡ p) × BodyAt code owner_at k place body.parts
  KindStands k p (Created a None) (Created b None) = a ≡ b
  -- a part belongs to an older word
  KindStands k p (Created a (Some place)) (Created b (Some part)) =
      (a ≡ b) × IsBefore k part.owner × BodyAt code owner_at part.owner place part.parts
  KindStands k p (Constant n) (Constant m) = n ≡ m
  KindStands k p Vocabulary Vocabulary = Unit {0}
  KindStands k p _ _ = ⊥

  pub record WordStands (k p : ℕ) (given : Named) (w : ForthWord) : Type 0 where
    pub name : given.name ≡ w.name
    pub vocabulary : given.vocabulary ≡ w.vocabulary
    pub immediate : given.immediate ≡ w.immediate
    pub here : given.here ≡ w.here
    pub in_space : IsHere w.here
    -- the system words come first
    pub system : is_primitive w.kind ≡ nat_le k system_count
    pub kind : KindStands k p given.kind w.kind

  -- word for word
  abbrev pub WordsStand : (k p : ℕ) → List Named → List ForthWord → Type 0
  WordsStand k p [] [] = Unit {0}
  WordsStand k p (given ∷ others) (w ∷ words) =
      WordStands k p given w × WordsStand (suc k) (p + cells_of w.kind) others words
  WordsStand k p _ _ = ⊥

-- the open definition was begun here, under a name that a word may have, and its word has room
abbrev pub IsBegun : (begun_at : ℕ) → List ForthWord → Option Definition → Type 0
IsBegun begun_at words None = Unit {0}
IsBegun begun_at words (Some d) =
    (begun_at ≡ d.here) × IsHere d.here × (is_name d.name ≡ true) × (length words < most_words)

-- a lexicon stands for a language
pub record Stands (l : Lexicon) (x : Language) : Type 0 where
  pub words : WordsStand l.code (owner_in x.words) 1 0 l.dictionary.words x.words
  pub system : system_count ≤ length x.words
  pub room : length x.words ≤ most_words
  pub first : l.dictionary.context ≡ x.first
  pub current : l.dictionary.current ≡ x.current
  pub here : l.here ≡ x.here
  pub in_space : IsHere x.here
  pub cells : used l.compiler ≡ used_cells x.words
  pub definition : Holds l.compiler l.code x.definition
  pub begun : IsBegun l.begun_at x.words x.definition

abbrev pub IsSound : Lexicon → Type 0
IsSound l = (x : Language) × Stands l x

-- What is left to do, beside what stands on the return stack, means these levels, and each body that runs is a word's.
pub record IsLeft (l : Lexicon) (x : Language) (doing : Doing) (entries : List Entry) (levels : List Level) : Type 0 where
  pub lies : Left l.code (owner_in x.words) doing.pending doing.place entries levels
  pub running : RunsBefore (suc (length x.words)) levels

-- from this place on the cells are a part of this word's body, with the parts after it
pub record IsPart (l : Lexicon) (x : Language) (place owner : ℕ) (parts : List Trees) : Type 0 where
  pub lies : BodyAt l.code (owner_in x.words) owner place parts
  pub owned : IsBefore (suc (length x.words)) owner

-- a word has this token
pub record IsWord (x : Language) (token : ℕ) : Type 0 where
  pub above : 0 < token
  pub most : token ≤ length x.words
