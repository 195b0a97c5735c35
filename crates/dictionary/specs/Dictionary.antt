-- What a contract sees of a dictionary, and what each call changes.
use Rattle.std.specs.Prelude.{ℕ, ◌<◌, ◌≤◌, Bool, false, not, nat_le, nat_lt, ◌==◌, ◌||◌, ◌&&◌, if◌then◌else◌, List, [], ◌∷◌, ◌++◌, length, Option, Some, None}
use Rattle.dictionary.specs.declared.words.Word.{Word as GivenWord}
use Rattle.dictionary.specs.declared.words.Kind.{Kind as GivenKind}
use Rattle.dictionary.specs.declared.words.Kind.TheVariants as given
use Rattle.dictionary.specs.declared.words.DictionaryFault.{DictionaryFault}
use Rattle.dictionary.specs.declared.words.DictionaryFault.TheVariants.{NameLength, Full, Protected, NotCreated}
use Rattle.dictionary.specs.Words.{Kind, Word, Primitive, Colon, Created, Constant, Vocabulary, is_name, most_words, system_count, forth_token, older, kept, with_part}
use Rattle.dictionary.specs.System.{first_words}

-- a body and a part are named by their places
abbrev pub Named : Type 0
Named = Word ℕ ℕ

pub record Dictionary : Type 0 where
  pub words : List Named
  -- the tokens of the first vocabulary of the search, and of the compilation vocabulary
  pub context : ℕ
  pub current : ℕ

abbrev pub first_dictionary : Dictionary
first_dictionary = record { words = first_words; context = forth_token; current = forth_token }

abbrev pub kind_of : GivenKind → Kind ℕ ℕ
kind_of given.Primitive = Primitive
kind_of (given.Colon place) = Colon place
kind_of (given.Created data_address part) = Created data_address part
kind_of (given.Constant value) = Constant value
kind_of given.Vocabulary = Vocabulary

abbrev pub word_of : GivenWord → Named
word_of w = record { name = w.name.now; vocabulary = w.vocabulary; immediate = w.immediate; here = w.here; kind = kind_of w.kind }

-- the body of a colon definition
abbrev pub body_of : Kind ℕ ℕ → Option ℕ
body_of (Colon place) = Some place
body_of _ = None

abbrev pub body_of_word : Option Named → Option ℕ
body_of_word None = None
body_of_word (Some w) = body_of w.kind

abbrev pub kind_of_word : Option Named → Option (Kind ℕ ℕ)
kind_of_word None = None
kind_of_word (Some w) = Some w.kind

-- a word has this token
abbrev pub is_token : Dictionary → ℕ → Bool
is_token d token = nat_lt 0 token && nat_le token (length d.words)

-- FORTH, or any other word: that it was made by VOCABULARY is for the caller to know
abbrev pub may_be_vocabulary : Dictionary → ℕ → Bool
may_be_vocabulary d token = token == forth_token || is_token d token

-- Each refusal, and the dictionary after a call that is not refused.

-- a new word: the name is looked at before the room
abbrev pub add_refusal : Dictionary → List ℕ → Option DictionaryFault
add_refusal d name =
    if not (is_name name) then Some NameLength else (if length d.words == most_words then Some Full else None)

-- the new word is in the compilation vocabulary
abbrev pub with_word : Dictionary → List ℕ → GivenKind → ℕ → Dictionary
with_word d name kind here =
    record d { words = d.words ++ record { name = name; vocabulary = d.current; immediate = false; here = here; kind = kind_of kind } ∷ [] }

-- the most recent word is a system word
abbrev pub immediate_refusal : Dictionary → Option DictionaryFault
immediate_refusal d = if length d.words == system_count then Some Protected else None

abbrev pub not_created : Option (List Named) → Option DictionaryFault
not_created None = Some NotCreated
not_created (Some words) = None

-- the most recent word was not made by CREATE or VARIABLE
abbrev pub does_refusal : Dictionary → ℕ → Option DictionaryFault
does_refusal d part = not_created (with_part d.words part)

-- a system word, or the compilation vocabulary is this word or a later one
abbrev pub forget_refusal : Dictionary → ℕ → Option DictionaryFault
forget_refusal d token = if nat_le token system_count || nat_le token d.current then Some Protected else None

-- the older words stay
abbrev pub forgotten : Dictionary → ℕ → Dictionary
forgotten d token = record { words = older d.words token; context = kept token d.context; current = d.current }

-- what holds of a dictionary at any time
pub record IsValid (d : Dictionary) : Type 0 where
  pub system : system_count ≤ length d.words
  pub room : length d.words ≤ most_words
  pub context : (0 < d.context) × (d.context ≤ length d.words)
  pub current : (0 < d.current) × (d.current ≤ length d.words)
