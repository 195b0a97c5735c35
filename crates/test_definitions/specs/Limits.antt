-- The limits of dictionary, code and structures, from systems that are almost full.
use Rattle.std.specs.Prelude.{ℕ, ◌-◌, zero, suc, false, List, [], ◌∷◌, ◌++◌, codes, replicate, refl}
use Rattle.dictionary.specs.Words.{Colon, forth_token, system_count}
use Rattle.dictionary.specs.System.{first_words}
use Rattle.cell_machine.specs.Tree.{End}
use Rattle.interpreter.specs.State.{Forth, ForthWord}
use Rattle.test_definitions.specs.Playing.{◌⇒◌, Replies, Plays, image, over}

-- the word A with this many cells
abbrev pub colon_word : ℕ → ForthWord
colon_word cells = record { name = codes "A"; vocabulary = forth_token; immediate = false; here = 1280; kind = Colon (record { parts = End ∷ []; cells = cells }) }

abbrev pub with_words : List ForthWord → Forth
with_words words = let s = over (image []) in record s { world = record s.world { words = first_words ++ words } }

-- one word less than there may be leaves room for one
one_word_left : Plays (with_words (replicate (4095 - system_count) (colon_word 1))) [] (codes ": B ;" ⇒ codes " ok" ∷ codes ": B ;" ⇒ codes " ? DICTIONARY FULL" ∷ codes "CREATE C" ⇒ codes " ? DICTIONARY FULL" ∷ [])
one_word_left = refl

-- 16,383 literals and an end take all code cells but one
one_cell_left : Plays (with_words (colon_word 32767 ∷ [])) [] (codes ": B ;" ⇒ codes " ok" ∷ codes ": C ;" ⇒ codes " ? CODE FULL" ∷ codes "FORGET B : C ;" ⇒ codes " ok" ∷ [])
one_cell_left = refl

cells_given_back : Plays (with_words (colon_word 32765 ∷ [])) [] (codes ": B 1 ;" ⇒ codes " ok" ∷ codes ": C 1 ;" ⇒ codes " ? CODE FULL" ∷ codes "FORGET B : C DUP DUP ;" ⇒ codes " ok" ∷ [])
cells_given_back = refl

-- n times IF
abbrev pub ifs : ℕ → List ℕ
ifs zero = []
ifs (suc n) = codes " IF" ++ ifs n

begun_structures : Replies ((codes ": T" ++ ifs 256) ⇒ [] ∷ codes "IF" ⇒ codes " ? CODE FULL" ∷ codes "T" ⇒ codes " ? UNDEFINED" ∷ [])
begun_structures = refl
