-- The system words as words of a dictionary, in token order.
use Rattle.std.specs.Prelude.{ℕ, Bool, false, List, map, Option, Some, None}
use Rattle.system_words.specs.declared.words.Mark.{Mark}
use Rattle.system_words.specs.Rows.{Row, rows, mark_of, is_immediate, is_compile_only}
use Rattle.dictionary.specs.Words.{Word, Primitive, forth_token}

abbrev pub is_marked_only : Option Mark → Bool
is_marked_only (Some mark) = is_compile_only mark
is_marked_only None = false

-- whether this is the token of a compile-only word; every other token, one that no word has too, is not
abbrev pub compile_only_token : ℕ → Bool
compile_only_token token = is_marked_only (mark_of token)

-- as it stands in a new dictionary
abbrev pub system_word : {B P : Type 0} → Row → Word B P
system_word row = record { name = row.name; vocabulary = forth_token; immediate = is_immediate row.mark; here = 1280; kind = Primitive }

abbrev pub first_words : {B P : Type 0} → List (Word B P)
first_words = map system_word rows
