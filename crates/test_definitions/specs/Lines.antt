-- Lines, their ends and their bytes; input taken by KEY and EXPECT; the input stream.
use Rattle.std.specs.Prelude.{[], ◌∷◌, ◌++◌, codes, replicate, refl}
use Rattle.number_io.specs.Writing.{divided, digits_of}
use Rattle.test_definitions.specs.Playing.{◌⇒◌, Replies, Gives}

empty_line : Replies ([] ⇒ codes " ok" ∷ [])
empty_line = refl

a_sum : Replies (codes "1 2 + ." ⇒ codes "3  ok" ∷ [])
unfolding digits_of divided
a_sum = refl

printed_before_a_fault : Replies (codes "1 . FOO" ⇒ codes "1  ? UNDEFINED" ∷ [])
unfolding digits_of divided
printed_before_a_fault = refl

-- ---- cutting

ended_by_return_and_feed : Gives (codes "1 ." ++ 13 ∷ 10 ∷ []) (codes "1  ok" ++ 10 ∷ [])
unfolding digits_of divided
ended_by_return_and_feed = refl

ended_by_two_returns : Gives (codes "1 ." ++ 13 ∷ 13 ∷ 10 ∷ []) (codes " ? UNDEFINED" ++ 10 ∷ [])
unfolding digits_of divided
ended_by_two_returns = refl

tab_for_blank : Gives (codes "1" ++ 9 ∷ codes "." ++ 10 ∷ []) (codes "1  ok" ++ 10 ∷ [])
unfolding digits_of divided
tab_for_blank = refl

no_input : Gives [] ([])
no_input = refl

last_line_without_a_feed : Gives (codes "1 .") (codes "1  ok" ++ 10 ∷ [])
unfolding digits_of divided
last_line_without_a_feed = refl

last_line_of_a_return : Gives (13 ∷ []) (codes " ok" ++ 10 ∷ [])
last_line_of_a_return = refl

longest_line : Replies (replicate 1024 65 ⇒ codes " ? UNDEFINED" ∷ [])
longest_line = refl

line_too_long : Replies (replicate 1025 65 ⇒ codes " ? LINE LENGTH" ∷ [])
line_too_long = refl

-- a line that is too long drops the open definition and the stack, as any fault does
line_too_long_while_compiling : Replies (codes "1 : A" ⇒ [] ∷ replicate 1025 65 ⇒ codes " ? LINE LENGTH" ∷ codes "DEPTH . A" ⇒ codes "0  ? UNDEFINED" ∷ [])
unfolding digits_of divided
line_too_long_while_compiling = refl

-- ---- leaving a line

compiling_has_no_ok : Replies (codes ": SQ" ⇒ [] ∷ codes "DUP * ;" ⇒ codes " ok" ∷ codes "7 SQ ." ⇒ codes "49  ok" ∷ [])
unfolding digits_of divided
compiling_has_no_ok = refl

quit_keeps_the_stack : Replies (codes "5 QUIT 6" ⇒ [] ∷ codes "." ⇒ codes "5  ok" ∷ [])
unfolding digits_of divided
quit_keeps_the_stack = refl

abort_clears_the_stack : Replies (codes "5 ABORT 6" ⇒ [] ∷ codes "." ⇒ codes " ? STACK EMPTY" ∷ [])
abort_clears_the_stack = refl

abort_with_a_text : Replies (codes ": T ABORT\" NO\" 5 . ; 0 T 1 T" ⇒ codes "5 NO" ∷ [])
unfolding digits_of divided
abort_with_a_text = refl

quit_drops_the_definition : Replies (codes ": A 1 [ QUIT" ⇒ [] ∷ codes "A" ⇒ codes " ? UNDEFINED" ∷ [])
quit_drops_the_definition = refl

-- ---- KEY and EXPECT

key_takes_of_the_next_line : Replies (codes "KEY ." ⇒ codes "65  ok" ∷ codes "AB" ⇒ codes " ? UNDEFINED" ∷ [])
unfolding digits_of divided
key_takes_of_the_next_line = refl

key_takes_a_line_feed : Gives (codes "KEY ." ++ 10 ∷ 10 ∷ codes "1 ." ++ 10 ∷ []) (codes "10  ok" ++ 10 ∷ codes "1  ok" ++ 10 ∷ [])
unfolding digits_of divided
key_takes_a_line_feed = refl

key_takes_any_byte : Gives (codes "KEY . KEY ." ++ 10 ∷ 13 ∷ 255 ∷ []) (codes "13 255  ok" ++ 10 ∷ [])
unfolding digits_of divided
key_takes_any_byte = refl

key_at_the_end : Replies (codes "KEY" ⇒ codes " ? END OF INPUT" ∷ [])
key_at_the_end = refl

expect_stores_what_it_takes : Replies (codes "PAD 3 EXPECT PAD SPAN @ TYPE" ⇒ codes "ABC ok" ∷ codes "ABCD" ⇒ codes " ? UNDEFINED" ∷ [])
expect_stores_what_it_takes = refl

expect_up_to_a_feed : Gives (codes "PAD 9 EXPECT SPAN @ . PAD 2 TYPE" ++ 10 ∷ codes "AB" ++ 10 ∷ codes "1 ." ++ 10 ∷ []) (codes "2 AB ok" ++ 10 ∷ codes "1  ok" ++ 10 ∷ [])
unfolding digits_of divided
expect_up_to_a_feed = refl

-- bytes 13 are skipped, and count as taken
expect_of_returns_alone : Gives (codes "PAD 2 EXPECT SPAN @ ." ++ 10 ∷ 13 ∷ 13 ∷ []) (codes "0  ok" ++ 10 ∷ [])
unfolding digits_of divided
expect_of_returns_alone = refl

expect_at_the_end : Replies (codes "7 SPAN ! PAD 2 EXPECT" ⇒ codes " ? END OF INPUT" ∷ [])
expect_at_the_end = refl

expect_of_nothing : Replies (codes "7 SPAN ! PAD 0 EXPECT SPAN @ ." ⇒ codes "0  ok" ∷ [])
unfolding digits_of divided
expect_of_nothing = refl

expect_past_data_space : Replies (codes "65535 2 EXPECT" ⇒ codes " ? ADDRESS" ∷ [])
expect_past_data_space = refl

-- ---- the input stream

to_in_past_the_end : Replies (codes "7 5000 >IN ! ." ⇒ codes " ok" ∷ codes "." ⇒ codes "7  ok" ∷ [])
unfolding digits_of divided
to_in_past_the_end = refl

-- a word of 1,013 bytes 0
more_bytes_than_the_line : Replies (codes "2000 #TIB !" ⇒ codes " ? UNDEFINED" ∷ [])
more_bytes_than_the_line = refl

word_builds_at_here : Replies (codes "32 WORD ABC COUNT TYPE" ⇒ codes "ABC ok" ∷ [])
word_builds_at_here = refl

a_word_is_not_built_at_here : Replies (codes "65 HERE C! HERE C@ ." ⇒ codes "65  ok" ∷ [])
unfolding digits_of divided
a_word_is_not_built_at_here = refl

comments_and_texts : Replies (codes "1 ( 2 3) . .( AB)5 ." ⇒ codes "1 AB5  ok" ∷ codes "( without an end" ⇒ codes " ok" ∷ codes ".( )" ⇒ codes " ok" ∷ [])
unfolding digits_of divided
comments_and_texts = refl
