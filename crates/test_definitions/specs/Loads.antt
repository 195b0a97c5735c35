-- Text in blocks.
use Rattle.std.specs.Prelude.{ℕ, List, [], ◌∷◌, codes, refl}
use Rattle.number_io.specs.Writing.{divided, digits_of}
use Rattle.test_definitions.specs.Playing.{Exchange, ◌⇒◌, Plays, Replies, image, over, screen}

-- block 1 has this text
abbrev pub WithOne : List ℕ → List Exchange → Type 0
WithOne text xs = Plays (over (image (screen [] ∷ screen text ∷ []))) [] xs

loaded : WithOne (codes "1 2 + .") (codes "1 LOAD" ⇒ codes "3  ok" ∷ codes "0 LOAD" ⇒ codes " ? NO BLOCK" ∷ [])
unfolding digits_of divided
loaded = refl

loading_itself : WithOne (codes "1 LOAD") (codes "1 LOAD" ⇒ codes " ? LOAD DEPTH" ∷ [])
loading_itself = refl

nested : Plays (over (image (screen [] ∷ screen (codes "2 LOAD 5 .") ∷ screen (codes "4 .") ∷ []))) [] (codes "1 LOAD 6 ." ⇒ codes "4 5 6  ok" ∷ [])
unfolding digits_of divided
nested = refl

-- each of the blocks 1 to 7 loads its successor; block 8 has this text
abbrev pub WithEight : List ℕ → List Exchange → Type 0
WithEight text xs =
    Plays (over (image (screen [] ∷ screen (codes "2 LOAD") ∷ screen (codes "3 LOAD") ∷ screen (codes "4 LOAD") ∷ screen (codes "5 LOAD") ∷
    screen (codes "6 LOAD") ∷ screen (codes "7 LOAD") ∷ screen (codes "8 LOAD") ∷ screen text ∷ []))) [] xs

eight_deep : WithEight (codes "8 .") (codes "1 LOAD" ⇒ codes "8  ok" ∷ [])
unfolding digits_of divided
eight_deep = refl

nine_deep : WithEight (codes "9 LOAD") (codes "1 LOAD" ⇒ codes " ? LOAD DEPTH" ∷ [])
nine_deep = refl

quit_in_a_load : WithOne (codes "7 . QUIT 8 .") (codes "1 LOAD 9 ." ⇒ codes "7 " ∷ codes "BLK @ ." ⇒ codes "0  ok" ∷ [])
unfolding digits_of divided
quit_in_a_load = refl

abort_in_a_load : WithOne (codes "7 . ABORT 8 .") (codes "5 1 LOAD 9 ." ⇒ codes "7 " ∷ codes "." ⇒ codes " ? STACK EMPTY" ∷ [])
unfolding digits_of divided
abort_in_a_load = refl

fault_in_a_load : WithOne (codes "7 . NOPE 8 .") (codes "1 LOAD 9 ." ⇒ codes "7  ? UNDEFINED" ∷ codes "BLK @ ." ⇒ codes "0  ok" ∷ [])
unfolding digits_of divided
fault_in_a_load = refl

loaded_in_a_body : WithOne (codes "4 .") (codes ": L 1 LOAD 5 . ; L" ⇒ codes "4 5  ok" ∷ [])
unfolding digits_of divided
loaded_in_a_body = refl

forgotten_in_a_load : WithOne (codes "FORGET L") (codes ": L 1 LOAD 5 . ; L" ⇒ codes " ? PROTECTED" ∷ [])
forgotten_in_a_load = refl

-- the block is read as it stands at each taking
a_block_that_changes_itself : WithOne (codes "50 1 BLOCK 19 + C! 1 .") (codes "1 LOAD" ⇒ codes "2  ok" ∷ [])
unfolding digits_of divided
a_block_that_changes_itself = refl

block_of_the_stream : Replies (codes "7 1 BLK ! ." ⇒ codes " ok" ∷ codes "." ⇒ codes "7  ok" ∷ codes "40 BLK ! 1" ⇒ codes " ? NO BLOCK" ∷ codes "40 LOAD" ⇒ codes " ? NO BLOCK" ∷ [])
unfolding digits_of divided
block_of_the_stream = refl
