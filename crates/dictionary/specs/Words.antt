-- The dictionary: a list of words, oldest first. Tokens count the list's places, beginning with 1.
use Rattle.std.specs.Prelude.{ℕ, zero, suc, ◌-◌, Bool, true, ◌&&◌, nat_le, nat_lt, ◌==◌, if◌then◌else◌, List, [], ◌∷◌, length, take, Option, Some, None, slice_get, nat_eq}
use Rattle.std.specs.Cmp.Lexicographic.{pointwise}
use Rattle.system_words.specs.Rows.{count}

-- What a word is. B says what the body of a colon definition is, and P what a part is: the code that DOES> gave to a
-- word, to be run with its data address.
pub data Kind (B P : Type 0) : Type 0 where
  Primitive : Kind B P
  Colon : B → Kind B P
  Created : ℕ → Option P → Kind B P
  Constant : ℕ → Kind B P
  Vocabulary : Kind B P

pub record Word (B P : Type 0) : Type 0 where
  pub name : List ℕ
  -- the token of the compilation vocabulary when it was added
  pub vocabulary : ℕ
  pub immediate : Bool
  -- HERE when it was begun
  pub here : ℕ
  pub kind : Kind B P

-- the token of the word FORTH, which is the vocabulary of the system words
abbrev pub forth_token : ℕ
forth_token = 91

abbrev pub system_count : ℕ
system_count = count

abbrev pub most_words : ℕ
most_words = 4096

-- names are compared byte by byte
abbrev pub same_text : List ℕ → List ℕ → Bool
same_text s t = pointwise nat_eq s t

abbrev pub or_else : {A : Type 0} → Option A → Option A → Option A
or_else (Some x) o = Some x
or_else None o = o

-- a new word has a name of 1 to 31 bytes
abbrev pub is_name : List ℕ → Bool
is_name name = nat_lt 0 (length name) && nat_le (length name) 31

-- the first vocabulary, or FORTH where it is gone
abbrev pub kept : ℕ → ℕ → ℕ
kept token first = if nat_lt first token then first else forth_token

module _ {B P : Type 0} where
  -- the last word of this name in this vocabulary, among words whose first has token k
  abbrev pub last_from : ℕ → List (Word B P) → ℕ → List ℕ → Option ℕ
  last_from k [] vocabulary name = None
  last_from k (w ∷ words) vocabulary name =
      or_else (last_from (suc k) words vocabulary name)
      (if w.vocabulary == vocabulary && same_text w.name name then Some k else None)

  abbrev pub find_in : List (Word B P) → ℕ → List ℕ → Option ℕ
  find_in words vocabulary name = last_from 1 words vocabulary name

  -- in the first vocabulary, else in FORTH
  abbrev pub find : List (Word B P) → (first : ℕ) → List ℕ → Option ℕ
  find words first name = or_else (find_in words first name) (find_in words forth_token name)

  abbrev pub entry : List (Word B P) → ℕ → Option (Word B P)
  entry words zero = None
  entry words (suc k) = slice_get words k

  -- the words older than this one
  abbrev pub older : List (Word B P) → ℕ → List (Word B P)
  older words token = take (token - 1) words

  -- the most recent word is immediate
  abbrev pub with_immediate : List (Word B P) → List (Word B P)
  with_immediate [] = []
  with_immediate (w ∷ []) = record w { immediate = true } ∷ []
  with_immediate (w ∷ v ∷ words) = w ∷ with_immediate (v ∷ words)

  abbrev pub kind_with : P → Kind B P → Option (Kind B P)
  kind_with p (Created a part) = Some (Created a (Some p))
  kind_with p _ = None

  abbrev pub with_kind : Word B P → Option (Kind B P) → Option (List (Word B P))
  with_kind w None = None
  with_kind w (Some kind) = Some (record w { kind = kind } ∷ [])

  abbrev pub before : Word B P → Option (List (Word B P)) → Option (List (Word B P))
  before w None = None
  before w (Some words) = Some (w ∷ words)

  -- the most recent word with this part, where CREATE or VARIABLE made it
  abbrev pub with_part : List (Word B P) → P → Option (List (Word B P))
  with_part [] p = None
  with_part (w ∷ []) p = with_kind w (kind_with p w.kind)
  with_part (w ∷ v ∷ words) p = before w (with_part (v ∷ words) p)
