-- The data stack and data space.
use Rattle.std.specs.Prelude.{ℕ, zero, suc, List, [], ◌∷◌, codes, refl}
use Rattle.number_io.specs.Writing.{divided, digits_of}
use Rattle.test_definitions.specs.Playing.{◌⇒◌, Replies, RepliesIn}

-- n times a 1
abbrev pub many : ℕ → List ℕ
many zero = []
many (suc n) = 49 ∷ 32 ∷ many n

too_many_cells : Replies (many 257 ⇒ codes " ? STACK FULL" ∷ [])
too_many_cells = refl

all_cells : Replies (many 256 ⇒ codes " ok" ∷ codes "DEPTH" ⇒ codes " ? STACK FULL" ∷ codes "DEPTH ." ⇒ codes "0  ok" ∷ [])
unfolding digits_of divided
all_cells = refl

no_room_for_a_key : Replies (many 256 ⇒ codes " ok" ∷ codes "KEY" ⇒ codes " ? STACK FULL" ∷ codes "KEY ." ⇒ codes "49  ok" ∷ codes "1 ." ⇒ codes " ? STACK EMPTY" ∷ [])
unfolding digits_of divided
no_room_for_a_key = refl

moved_cells : Replies (codes "1 2 SWAP . . 1 2 OVER . . . 1 2 3 ROT . . ." ⇒ codes "1 2 1 2 1 1 3 2  ok" ∷ codes "1 2 3 2 ROLL . . ." ⇒ codes "1 3 2  ok" ∷ codes "1 2 3 2 PICK . . . ." ⇒ codes "1 3 2 1  ok" ∷ codes "0 ?DUP . 5 ?DUP . ." ⇒ codes "0 5 5  ok" ∷ codes "1 2 DROP DUP . ." ⇒ codes "1 1  ok" ∷ [])
unfolding digits_of divided
moved_cells = refl

no_cell_there : Replies (codes "1 1 PICK" ⇒ codes " ? STACK EMPTY" ∷ codes "1 1 ROLL" ⇒ codes " ? STACK EMPTY" ∷ codes "DROP" ⇒ codes " ? STACK EMPTY" ∷ [])
no_cell_there = refl

low_byte_first : Replies (codes "1234 PAD ! PAD C@ . PAD 1+ C@ ." ⇒ codes "210 4  ok" ∷ codes "HERE . PAD ." ⇒ codes "1280 1604  ok" ∷ codes "5 PAD ! 7 PAD +! PAD @ ." ⇒ codes "12  ok" ∷ [])
unfolding digits_of divided
low_byte_first = refl

fill_and_move : Replies (codes "PAD 4 42 FILL 65 PAD C! PAD PAD 1+ 3 CMOVE PAD 4 TYPE" ⇒ codes "AAAA ok" ∷ codes "PAD 4 42 FILL 65 PAD C! PAD PAD 1+ 3 CMOVE> PAD 4 TYPE" ⇒ codes "AA** ok" ∷ [])
fill_and_move = refl

no_address : Replies (codes "65535 @" ⇒ codes " ? ADDRESS" ∷ codes "65535 2 TYPE" ⇒ codes " ? ADDRESS" ∷ codes "65535 1 42 FILL 65535 C@ ." ⇒ codes "42  ok" ∷ codes "65535 0 TYPE" ⇒ codes " ok" ∷ [])
unfolding digits_of divided
no_address = refl

-- the steps for bytes are charged before the range is looked at
steps_before_address : RepliesIn 100 (codes "65535 200 42 FILL" ⇒ codes " ? STEPS" ∷ codes "65535 20 42 FILL" ⇒ codes " ? ADDRESS" ∷ [])
steps_before_address = refl

trailing_blanks : Replies (codes "PAD 9 32 FILL 65 PAD 2+ C! PAD 9 -TRAILING . PAD = ." ⇒ codes "3 -1  ok" ∷ [])
unfolding digits_of divided
trailing_blanks = refl

printed_blanks : Replies (codes "65 EMIT SPACE 2 SPACES -1 SPACES 66 EMIT CR 256 67 + EMIT" ⇒ (65 ∷ 32 ∷ 32 ∷ 32 ∷ 66 ∷ 10 ∷ 67 ∷ codes " ok") ∷ [])
printed_blanks = refl

system_cells : Replies (codes "BASE @ . STATE @ . BLK @ . TIB . SPAN . >IN @ ." ⇒ codes "10 0 0 256 26 46  ok" ∷ [])
unfolding digits_of divided
system_cells = refl

room_in_data_space : Replies (codes "32767 ALLOT 26881 ALLOT HERE U." ⇒ codes "60928  ok" ∷ codes "1 ALLOT" ⇒ codes " ? DATA SPACE" ∷ codes "PAD U." ⇒ codes "61252  ok" ∷ codes "1 ," ⇒ codes " ? DATA SPACE" ∷ codes "VARIABLE X" ⇒ codes " ? DATA SPACE" ∷ codes "X" ⇒ codes " ? UNDEFINED" ∷ [])
unfolding digits_of divided
room_in_data_space = refl

no_less_than_none : Replies (codes "-1 ALLOT" ⇒ codes " ? DATA SPACE" ∷ codes "5 ALLOT -5 ALLOT HERE ." ⇒ codes "1280  ok" ∷ [])
unfolding digits_of divided
no_less_than_none = refl
