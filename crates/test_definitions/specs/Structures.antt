-- Tests, loops, exits, and steps.
use Rattle.std.specs.Prelude.{[], ◌∷◌, codes, refl}
use Rattle.number_io.specs.Writing.{divided, digits_of}
use Rattle.test_definitions.specs.Playing.{◌⇒◌, Replies, RepliesIn}

counted_loops : Replies (codes ": T 10 0 DO I . 3 +LOOP ; T" ⇒ codes "0 3 6 9  ok" ∷ codes ": D 0 3 DO I . -1 +LOOP ; D" ⇒ codes "3 2 1 0  ok" ∷ [])
unfolding digits_of divided
counted_loops = refl

loops_past_the_border : Replies (codes ": T 0 0 DO I . -1 +LOOP ; T" ⇒ codes "0  ok" ∷ codes ": U 5 0 DO I . 2 +LOOP ; U" ⇒ codes "0 2 4  ok" ∷ [])
unfolding digits_of divided
loops_past_the_border = refl

left_loops : Replies (codes ": T 9 0 DO I 3 = IF LEAVE THEN I . LOOP 7 . ; T" ⇒ codes "0 1 2 7  ok" ∷ codes ": U 2 0 DO 2 0 DO J I + . LOOP LOOP ; U" ⇒ codes "0 1 1 2  ok" ∷ [])
unfolding digits_of divided
left_loops = refl

left_twice : Replies (codes ": T 3 0 DO I 1 = IF LEAVE THEN I . LEAVE LOOP 9 . ; T" ⇒ codes "0 9  ok" ∷ [])
unfolding digits_of divided
left_twice = refl

while_a_test_holds : Replies (codes ": T BEGIN DUP 0> WHILE DUP . 1- REPEAT DROP ; 3 T" ⇒ codes "3 2 1  ok" ∷ [])
unfolding digits_of divided
while_a_test_holds = refl

until_a_test_holds : Replies (codes ": T BEGIN DUP . 1- DUP 0= UNTIL DROP ; 3 T" ⇒ codes "3 2 1  ok" ∷ [])
unfolding digits_of divided
until_a_test_holds = refl

until_no_steps_are_left : RepliesIn 1000 (codes ": U BEGIN 0 UNTIL ; U" ⇒ codes " ? STEPS" ∷ [])
until_no_steps_are_left = refl

either_way : Replies (codes ": T IF 1 ELSE 2 THEN . ; 1 T 0 T" ⇒ codes "1 2  ok" ∷ [])
unfolding digits_of divided
either_way = refl

an_exit : Replies (codes ": T 1 IF EXIT THEN 5 . ; T" ⇒ codes " ok" ∷ codes ": U 2 0 DO EXIT LOOP ;" ⇒ codes " ? UNBALANCED" ∷ [])
an_exit = refl

unbalanced : Replies (codes ": A IF ;" ⇒ codes " ? UNBALANCED" ∷ codes "A" ⇒ codes " ? UNDEFINED" ∷ codes ": B IF BEGIN THEN ;" ⇒ codes " ? UNBALANCED" ∷ codes ": C LEAVE" ⇒ codes " ? UNBALANCED" ∷ codes ": D DO DOES>" ⇒ codes " ? UNBALANCED" ∷ codes ": E BEGIN WHILE UNTIL" ⇒ codes " ? UNBALANCED" ∷ [])
unbalanced = refl

-- ---- steps: each line has its own

all_steps_of_a_loop : RepliesIn 65551 (codes ": N 0 0 DO LOOP ; N" ⇒ codes " ok" ∷ [])
all_steps_of_a_loop = refl

a_step_less : RepliesIn 65550 (codes ": N 0 0 DO LOOP ; N" ⇒ codes " ? STEPS" ∷ [])
a_step_less = refl

few_steps : RepliesIn 1000 (codes ": N 0 0 DO LOOP ; N" ⇒ codes " ? STEPS" ∷ [])
few_steps = refl

three_steps : RepliesIn 3 (codes "1 ." ⇒ codes "1  ok" ∷ codes "1 ." ⇒ codes "1  ok" ∷ [])
unfolding digits_of divided
three_steps = refl

two_steps : RepliesIn 2 (codes "1 ." ⇒ codes " ? STEPS" ∷ [])
two_steps = refl

-- a body ends even where no step is left: three words are taken and run
a_last_call : RepliesIn 6 (codes ": A ; A" ⇒ codes " ok" ∷ [])
a_last_call = refl

no_step_for_it : RepliesIn 5 (codes ": A ; A" ⇒ codes " ? STEPS" ∷ [])
no_step_for_it = refl

bytes_cost_steps : RepliesIn 9 (codes "5 SPACES" ⇒ codes "      ok" ∷ codes "6 SPACES" ⇒ codes "       ok" ∷ codes "7 SPACES" ⇒ codes " ? STEPS" ∷ [])
bytes_cost_steps = refl

back_at_the_start : RepliesIn 1000 (codes "0 >IN !" ⇒ codes " ? STEPS" ∷ [])
back_at_the_start = refl

-- ---- the list of a running body

values_put_aside : Replies (codes ": T 1 >R 2 . R@ . R> . ; T" ⇒ codes "2 1 1  ok" ∷ codes ": U >R ; 1 U" ⇒ codes " ? RETURN STACK" ∷ codes "DROP" ⇒ codes " ? STACK EMPTY" ∷ [])
unfolding digits_of divided
values_put_aside = refl

-- a body reaches its own list alone
no_list_but_its_own : Replies (codes ": A R> ; : B 1 >R A R> DROP ; B" ⇒ codes " ? RETURN STACK" ∷ codes ": C I ; : D 2 0 DO C LOOP ; D" ⇒ codes " ? RETURN STACK" ∷ [])
no_list_but_its_own = refl

-- 256 units: each call takes one
called_too_deep : Replies (codes ": R PAD @ EXECUTE ; ' R PAD ! R" ⇒ codes " ? RETURN STACK" ∷ [])
called_too_deep = refl

-- at the end of a loop its step comes first, then its cell, then its loop
end_of_a_loop : Replies (codes ": T 1 0 DO 5 >R LOOP ; T" ⇒ codes " ? RETURN STACK" ∷ codes ": U 1 0 DO +LOOP ; U" ⇒ codes " ? STACK EMPTY" ∷ [])
end_of_a_loop = refl
