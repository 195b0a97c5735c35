-- What the interpreter asks about a word.
use Rattle.std.specs.Prelude.{ℕ, Bool, true, false, Option, Some, None}
use Rattle.dictionary.specs.Words.{Kind, Created, Vocabulary}
use Rattle.lexicon.specs.Language.{ForthWord}

abbrev pub is_immediate : Option ForthWord → Bool
is_immediate (Some w) = w.immediate
is_immediate None = false

-- by kind, whatever bodies and parts are named by
abbrev pub makes_vocabulary : {B P : Type 0} → Kind B P → Bool
makes_vocabulary Vocabulary = true
makes_vocabulary _ = false

abbrev pub is_vocabulary : Option ForthWord → Bool
is_vocabulary (Some w) = makes_vocabulary w.kind
is_vocabulary None = false

abbrev pub data_field : {B P : Type 0} → Kind B P → Option ℕ
data_field (Created a part) = Some a
data_field _ = None

abbrev pub data_address : Option ForthWord → Option ℕ
data_address (Some w) = data_field w.kind
data_address None = None
