-- Definitions, defining words, vocabularies, FORGET, and words added at run time.
use Rattle.std.specs.Prelude.{[], ◌∷◌, codes, refl}
use Rattle.number_io.specs.Writing.{divided, digits_of}
use Rattle.test_definitions.specs.Playing.{◌⇒◌, Replies}

an_older_word_stays : Replies (codes ": A 1 ; : B A ; : A 2 ; B . A ." ⇒ codes "1 2  ok" ∷ [])
unfolding digits_of divided
an_older_word_stays = refl

an_open_definition_is_not_seen : Replies (codes ": A 1 ; : A A 1+ ; A ." ⇒ codes "2  ok" ∷ [])
unfolding digits_of divided
an_open_definition_is_not_seen = refl

literals_and_texts : Replies (codes ": T [ 2 3 + ] LITERAL ; T ." ⇒ codes "5  ok" ∷ codes ": G .\" HI\" ; G" ⇒ codes "HI ok" ∷ codes ": D 1. ; D . ." ⇒ codes "0 1  ok" ∷ [])
unfolding digits_of divided
literals_and_texts = refl

tokens : Replies (codes "' DUP ." ⇒ codes "36  ok" ∷ codes "32 WORD DUP FIND . ." ⇒ codes "-1 36  ok" ∷ codes ": A ; : B ; ' B ' A - ." ⇒ codes "1  ok" ∷ codes "' ; ." ⇒ codes "107  ok" ∷ codes "' ; EXECUTE" ⇒ codes " ? TOKEN" ∷ [])
unfolding digits_of divided
tokens = refl

no_token : Replies (codes "0 EXECUTE" ⇒ codes " ? TOKEN" ∷ codes ": A ; ' A FORGET A EXECUTE" ⇒ codes " ? TOKEN" ∷ codes "38 EXECUTE" ⇒ codes " ? TOKEN" ∷ codes "111 EXECUTE" ⇒ codes " ? TOKEN" ∷ codes "'" ⇒ codes " ? NAME" ∷ codes "' NOPE" ⇒ codes " ? UNDEFINED" ∷ [])
no_token = refl

found_or_not : Replies (codes "32 WORD NOPE FIND . HERE = ." ⇒ codes "0 -1  ok" ∷ codes "32 WORD IF FIND . ." ⇒ codes "1 117  ok" ∷ codes "65535 FIND" ⇒ (codes " ok") ∷ codes "5 65535 C! 65535 FIND" ⇒ codes " ? ADDRESS" ∷ [])
unfolding digits_of divided
found_or_not = refl

compile_only : Replies (codes "IF" ⇒ codes " ? COMPILE ONLY" ∷ codes "EXIT" ⇒ codes " ? COMPILE ONLY" ∷ [])
compile_only = refl

names : Replies (codes ":" ⇒ codes " ? NAME" ∷ codes ": ABCDEFGHIJKLMNOPQRSTUVWXYZ123456" ⇒ codes " ? NAME" ∷ codes ": ABCDEFGHIJKLMNOPQRSTUVWXYZ12345 ; ABCDEFGHIJKLMNOPQRSTUVWXYZ12345" ⇒ codes " ok" ∷ codes "dup" ⇒ codes " ? UNDEFINED" ∷ [])
names = refl

state_without_a_definition : Replies (codes "1 STATE !" ⇒ [] ∷ codes "1" ⇒ codes " ? NO DEFINITION" ∷ codes "1 ." ⇒ codes "1  ok" ∷ codes "1 STATE !" ⇒ [] ∷ codes "LITERAL" ⇒ codes " ? NO DEFINITION" ∷ codes "1 STATE !" ⇒ [] ∷ codes "DUP" ⇒ codes " ? NO DEFINITION" ∷ [])
unfolding digits_of divided
state_without_a_definition = refl

while_one_is_open : Replies (codes ": A [ : B" ⇒ codes " ? DEFINITION OPEN" ∷ codes ": A [ CREATE B" ⇒ codes " ? DEFINITION OPEN" ∷ codes ": A [ FORGET B" ⇒ codes " ? DEFINITION OPEN" ∷ codes ": A [ IMMEDIATE" ⇒ codes " ? DEFINITION OPEN" ∷ [])
while_one_is_open = refl

-- ---- defining words

constants_and_variables : Replies (codes "7 CONSTANT C C . VARIABLE V V @ . 5 V ! V @ ." ⇒ codes "7 0 5  ok" ∷ codes "CREATE X 3 ALLOT HERE X - ." ⇒ codes "3  ok" ∷ codes "CREATE Y 8 , Y @ ." ⇒ codes "8  ok" ∷ codes "CREATE Z ' Z >BODY Z = ." ⇒ codes "-1  ok" ∷ codes "' DUP >BODY" ⇒ codes " ? TOKEN" ∷ [])
unfolding digits_of divided
constants_and_variables = refl

a_defining_word : Replies (codes ": K CREATE , DOES> @ 1+ ; 41 K A A ." ⇒ codes "42  ok" ∷ [])
unfolding digits_of divided
a_defining_word = refl

no_created_word : Replies (codes ": B DOES> @ ; : C 1 ; B" ⇒ codes " ? TOKEN" ∷ [])
no_created_word = refl

-- EXIT before DOES> ends the call without it
exit_before_does : Replies (codes ": K CREATE EXIT DOES> 7 . ; K A A 1280 = ." ⇒ codes "-1  ok" ∷ [])
unfolding digits_of divided
exit_before_does = refl

-- ---- words added at run time

compiled_later : Replies (codes ": E COMPILE 1+ ; IMMEDIATE : T E E ; 5 T ." ⇒ codes "7  ok" ∷ [])
unfolding digits_of divided
compiled_later = refl

an_immediate_word_added : Replies (codes ": MY [COMPILE] IF ; IMMEDIATE : T MY 1 ELSE 2 THEN . ; 0 T" ⇒ codes "2  ok" ∷ [])
unfolding digits_of divided
an_immediate_word_added = refl

after_a_mark : Replies (codes ": A COMPILE 5 ;" ⇒ codes " ? UNBALANCED" ∷ codes ": A COMPILE .\" X\" ;" ⇒ codes " ? UNBALANCED" ∷ codes ": A COMPILE ;" ⇒ codes " ? UNBALANCED" ∷ codes ": A COMPILE ['] DUP ;" ⇒ codes " ? UNBALANCED" ∷ codes ": A COMPILE ['] NOPE ;" ⇒ codes " ? UNDEFINED" ∷ [])
after_a_mark = refl

-- COMPILE itself is a word that a mark may be followed by, and so is EXIT
compile_after_a_mark : Replies (codes ": A COMPILE COMPILE ; IMMEDIATE : B A DUP ; IMMEDIATE : C 5 B ; C . ." ⇒ codes "5 5  ok" ∷ codes ": X COMPILE EXIT ; IMMEDIATE : T 1 . X 2 . ; T" ⇒ codes "1  ok" ∷ [])
unfolding digits_of divided
compile_after_a_mark = refl

exit_added_in_a_loop : Replies (codes ": X COMPILE EXIT ; IMMEDIATE" ⇒ codes " ok" ∷ codes ": Y 2 0 DO COMPILE EXIT LOOP ; IMMEDIATE" ⇒ codes " ok" ∷ codes ": T 2 0 DO X LOOP ;" ⇒ codes " ? UNBALANCED" ∷ codes ": U 2 0 DO [COMPILE] EXIT LOOP ;" ⇒ codes " ? UNBALANCED" ∷ [])
exit_added_in_a_loop = refl

-- ---- vocabularies

another_vocabulary : Replies (codes "VOCABULARY V V DEFINITIONS : X 1 ; FORTH DEFINITIONS X" ⇒ codes " ? UNDEFINED" ∷ codes "V X ." ⇒ codes "1  ok" ∷ codes "FORGET DUP" ⇒ codes " ? PROTECTED" ∷ [])
unfolding digits_of divided
another_vocabulary = refl

words_of_one_name : Replies (codes "VOCABULARY V : A 1 ; V DEFINITIONS : A 2 ; FORTH DEFINITIONS : A 3 ; V A . FORTH A . FORGET A A . V A ." ⇒ codes "2 3 1 2  ok" ∷ codes "FORGET A A" ⇒ codes " ? UNDEFINED" ∷ [])
unfolding digits_of divided
words_of_one_name = refl

-- ---- FORGET

later_words_go_too : Replies (codes ": A 1 ; : B 2 ; FORGET A B" ⇒ codes " ? UNDEFINED" ∷ [])
later_words_go_too = refl

a_running_word_stays : Replies (codes ": S FORGET ; S S" ⇒ codes " ? PROTECTED" ∷ codes "HERE CREATE X 10 ALLOT FORGET X HERE = ." ⇒ codes "-1  ok" ∷ [])
unfolding digits_of divided
a_running_word_stays = refl

-- the running part belongs to its defining word: the created word may go
a_created_word_goes : Replies (codes ": K CREATE DOES> DROP FORGET ; K A A A" ⇒ codes " ok" ∷ codes "A" ⇒ codes " ? UNDEFINED" ∷ codes "K B B K" ⇒ codes " ? PROTECTED" ∷ [])
a_created_word_goes = refl

the_first_vocabulary_goes : Replies (codes "VOCABULARY V V FORGET V 1 ." ⇒ codes "1  ok" ∷ codes "VOCABULARY V V DEFINITIONS FORTH FORGET V" ⇒ codes " ? UNDEFINED" ∷ codes ": X ; FORGET DUP" ⇒ codes " ? UNDEFINED" ∷ [])
unfolding digits_of divided
the_first_vocabulary_goes = refl

the_compilation_vocabulary_stays : Replies (codes ": P ; VOCABULARY V V DEFINITIONS VOCABULARY W W DEFINITIONS : X ; V DEFINITIONS FORGET W" ⇒ codes " ok" ∷ codes "FORTH DEFINITIONS V DEFINITIONS VOCABULARY W FORGET W" ⇒ codes " ok" ∷ codes "FORGET P" ⇒ codes " ? UNDEFINED" ∷ [])
the_compilation_vocabulary_stays = refl

immediate_system_words : Replies (codes "IMMEDIATE" ⇒ codes " ? PROTECTED" ∷ [])
immediate_system_words = refl
