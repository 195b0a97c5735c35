-- The definitions computed on small sessions.
use Rattle.std.proofs.Common.{◌≡◌, ℕ, true, false, List, [], length, codes, Some, None, refl}
use Rattle.dictionary.specs.declared.words.Kind.TheVariants as given
use Rattle.dictionary.specs.declared.words.DictionaryFault.TheVariants.{Protected, NotCreated, NameLength}
use Rattle.dictionary.specs.Words.{find, forth_token, system_count}
use Rattle.dictionary.specs.System.{compile_only_token}
use Rattle.dictionary.specs.Dictionary.{Dictionary, first_dictionary, with_word, add_refusal, immediate_refusal, does_refusal, forget_refusal, forgotten}

-- ' DUP is 36, ' ; is 107, and the first word that a user defines is 133
dup_token : find first_dictionary.words forth_token (codes "DUP") ≡ Some 36
dup_token = refl

semicolon_token : find first_dictionary.words forth_token (codes ";") ≡ Some 107
semicolon_token = refl

forth_is_itself : find first_dictionary.words forth_token (codes "FORTH") ≡ Some forth_token
forth_is_itself = refl

system_words : length first_dictionary.words ≡ system_count
system_words = refl

lower_case : find first_dictionary.words forth_token (codes "dup") ≡ None
lower_case = refl

-- I is compile-only, [ is immediate alone
marks : compile_only_token 40 ≡ true
marks = refl

bracket : compile_only_token 129 ≡ false
bracket = refl

abbrev colon : Dictionary → List ℕ → Dictionary
colon d name = with_word d name (given.Colon 0) 1280

abbrev within : ℕ → Dictionary → Dictionary
within vocabulary d = record d { current = vocabulary }

-- VOCABULARY V : A 1 ; V DEFINITIONS : A 2 ; FORTH DEFINITIONS : A 3 ; where V is 133
abbrev three : Dictionary
three =
    let v = with_word first_dictionary (codes "V") given.Vocabulary 1280 in
    colon (within forth_token (colon (within 133 (colon v (codes "A"))) (codes "A"))) (codes "A")

-- V A . FORTH A . prints 2 3
second_in_v : find three.words 133 (codes "A") ≡ Some 135
second_in_v = refl

third_in_forth : find three.words forth_token (codes "A") ≡ Some 136
third_in_forth = refl

-- FORGET A A . V A . prints 1 2
first_again : find (forgotten three 136).words forth_token (codes "A") ≡ Some 134
first_again = refl

second_stays : find (forgotten three 136).words 133 (codes "A") ≡ Some 135
second_stays = refl

-- a second FORGET A deletes the word in V too
none_left : find (forgotten (forgotten three 136) 134).words 133 (codes "A") ≡ None
none_left = refl

-- FORGET DUP, FORGET of the compilation vocabulary, IMMEDIATE and DOES> at a system word
dup_stays : forget_refusal three 36 ≡ Some Protected
dup_stays = refl

vocabulary_stays : forget_refusal (within 133 three) 133 ≡ Some Protected
vocabulary_stays = refl

immediate_needs_a_word : immediate_refusal first_dictionary ≡ Some Protected
immediate_needs_a_word = refl

does_needs_created : does_refusal three 0 ≡ Some NotCreated
does_needs_created = refl

-- a name has a byte
empty_name : add_refusal first_dictionary [] ≡ Some NameLength
empty_name = refl
