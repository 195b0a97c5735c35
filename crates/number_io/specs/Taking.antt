-- Taking a word or a text from a stream.
use Rattle.std.specs.Prelude.{◌≡◌, ◌≢◌, ℕ, ◌==◌, if◌then◌else◌, List, [], ◌∷◌, ◌++◌, drop, ⊤}
use Rattle.std.specs.List.{AllByRecursion}

-- a rest is empty or begins with the delimiter
abbrev pub BeginsWith : ℕ → List ℕ → Type 0
BeginsWith c [] = ⊤
BeginsWith c (b ∷ rest) = b ≡ c

-- a taken word: the whole text is delimiters, the word, and a rest that begins with a delimiter
pub record IsTaking (c : ℕ) (text skipped word rest : List ℕ) : Type 0 where
  pub whole : text ≡ skipped ++ word ++ rest
  pub only : AllByRecursion (λ b. b ≡ c) skipped
  pub none : AllByRecursion (λ b. b ≢ c) word
  pub end : BeginsWith c rest
  pub nonempty : word ≡ [] → rest ≡ []

-- a taken text: nothing is skipped, so it may be empty before any rest
pub record IsTextTaking (c : ℕ) (text taken rest : List ℕ) : Type 0 where
  pub whole : text ≡ taken ++ rest
  pub none : AllByRecursion (λ b. b ≢ c) taken
  pub end : BeginsWith c rest

-- the text without delimiters at its front
abbrev pub skip : ℕ → List ℕ → List ℕ
skip c [] = []
skip c (b ∷ text) = if b == c then skip c text else b ∷ text

-- up to the next delimiter
abbrev pub up_to : ℕ → List ℕ → List ℕ
up_to c [] = []
up_to c (b ∷ text) = if b == c then [] else b ∷ up_to c text

-- from the next delimiter on
abbrev pub from : ℕ → List ℕ → List ℕ
from c [] = []
from c (b ∷ text) = if b == c then b ∷ text else from c text

-- the word, and what is left after it and the delimiter behind it
abbrev pub word_of : ℕ → List ℕ → List ℕ
word_of c text = up_to c (skip c text)

abbrev pub after_word : ℕ → List ℕ → List ℕ
after_word c text = drop 1 (from c (skip c text))

-- the same for a text, without skipping
abbrev pub text_of : ℕ → List ℕ → List ℕ
text_of c text = up_to c text

abbrev pub after_text : ℕ → List ℕ → List ℕ
after_text c text = drop 1 (from c text)

-- the delimiters at the front of a text
abbrev pub skipped : ℕ → List ℕ → List ℕ
skipped c [] = []
skipped c (b ∷ text) = if b == c then b ∷ skipped c text else []
