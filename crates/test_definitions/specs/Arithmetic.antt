-- Numbers read and printed, and arithmetic.
use Rattle.std.specs.Prelude.{[], ◌∷◌, codes, refl}
use Rattle.number_io.specs.Writing.{divided, digits_of}
use Rattle.test_definitions.specs.Playing.{◌⇒◌, Replies}

singles : Replies (codes "65535 ." ⇒ codes "-1  ok" ∷ codes "65536" ⇒ codes " ? NUMBER" ∷ codes "1. . ." ⇒ codes "0 1  ok" ∷ [])
unfolding digits_of divided
singles = refl

no_numbers : Replies (codes "-32769" ⇒ codes " ? NUMBER" ∷ codes "-." ⇒ codes " ? UNDEFINED" ∷ codes "1.5" ⇒ codes " ? UNDEFINED" ∷ codes "-0 ." ⇒ codes "0  ok" ∷ [])
unfolding digits_of divided
no_numbers = refl

doubles : Replies (codes "4294967295. . ." ⇒ codes "-1 -1  ok" ∷ codes "4294967296." ⇒ codes " ? NUMBER" ∷ codes "-2147483648. . ." ⇒ codes "-32768 0  ok" ∷ [])
unfolding digits_of divided
doubles = refl

bases : Replies (codes "99 BASE !" ⇒ codes " ok" ∷ codes "1" ⇒ codes " ? BASE" ∷ codes "DECIMAL 1 ." ⇒ codes "1  ok" ∷ codes "16 BASE ! FF ." ⇒ codes "FF  ok" ∷ [])
unfolding digits_of divided
bases = refl

no_base : Replies (codes "0 BASE !" ⇒ codes " ok" ∷ codes "1" ⇒ codes " ? BASE" ∷ [])
no_base = refl

printing_in_no_base : Replies (codes "5 1 BASE ! ." ⇒ codes " ? BASE" ∷ [])
printing_in_no_base = refl

highest_base : Replies (codes "72 BASE ! 71 DECIMAL U." ⇒ codes "505  ok" ∷ [])
unfolding digits_of divided
highest_base = refl

floored_division : Replies (codes "-7 2 /MOD . ." ⇒ codes "-4 1  ok" ∷ codes "7 -2 /MOD . ." ⇒ codes "-4 -1  ok" ∷ codes "-7 -2 / . -7 2 MOD ." ⇒ codes "3 1  ok" ∷ [])
unfolding digits_of divided
floored_division = refl

no_quotient : Replies (codes "-32768 -1 /" ⇒ codes " ? DIVISION" ∷ codes "-32768 -1 MOD" ⇒ codes " ? DIVISION" ∷ codes "1 0 /MOD" ⇒ codes " ? DIVISION" ∷ codes "0 1 1 UM/MOD" ⇒ codes " ? DIVISION" ∷ [])
no_quotient = refl

scaled : Replies (codes "10000 3 7 */ . 10000 3 7 */MOD . ." ⇒ codes "4285 4285 5  ok" ∷ [])
unfolding digits_of divided
scaled = refl

unsigned_doubles : Replies (codes "300 300 UM* . ." ⇒ codes "1 24464  ok" ∷ codes "24464 1 300 UM/MOD . ." ⇒ codes "300 0  ok" ∷ [])
unfolding digits_of divided
unsigned_doubles = refl

signed_doubles : Replies (codes "-1. 2. D+ . . 1. DNEGATE . ." ⇒ codes "0 1 -1 -1  ok" ∷ codes "-1. 1. D< . 1. 1. D< ." ⇒ codes "-1 0  ok" ∷ [])
unfolding digits_of divided
signed_doubles = refl

sums_and_products : Replies (codes "65535 2 + . 1 2 - . 300 300 * ." ⇒ codes "1 -1 24464  ok" ∷ codes "1 1+ . 1 1- . 1 2+ . 1 2- ." ⇒ codes "2 0 3 -1  ok" ∷ [])
unfolding digits_of divided
sums_and_products = refl

one_cell : Replies (codes "5 NEGATE . -5 ABS . -32768 ABS U. -3 2/ . 0 NOT ." ⇒ codes "-5 5 32768 -2 -1  ok" ∷ codes "-1 0< . 0 0= . 1 0> . -1 0> ." ⇒ codes "-1 -1 -1 0  ok" ∷ [])
unfolding digits_of divided
one_cell = refl

bit_by_bit : Replies (codes "12 10 AND . 12 10 OR . 12 10 XOR ." ⇒ codes "8 14 6  ok" ∷ [])
unfolding digits_of divided
bit_by_bit = refl

compared : Replies (codes "-1 1 < . -1 1 > . 2 2 = . -1 1 U< . -1 1 MAX . -1 1 MIN ." ⇒ codes "-1 0 -1 0 1 -1  ok" ∷ [])
unfolding digits_of divided
compared = refl

-- ---- pictures

a_picture : Replies (codes "-5 DUP ABS 0 <# #S ROT SIGN #> TYPE" ⇒ codes "-5 ok" ∷ codes "12 0 <# # # # 46 HOLD #> TYPE" ⇒ codes ".012 ok" ∷ [])
unfolding digits_of divided
a_picture = refl

-- the picture holds 66 bytes
too_many_held : Replies (codes ": T 66 0 DO 65 HOLD LOOP ; <# T 0 0 #> . DROP" ⇒ codes "66  ok" ∷ codes "65 HOLD" ⇒ codes " ? HOLD" ∷ codes "0 0 #> ." ⇒ codes "66  ok" ∷ [])
unfolding digits_of divided
too_many_held = refl

-- it stays where it was begun, and its bytes lie in data space
picture_in_memory : Replies (codes "<# 65 HOLD 66 HOLD PAD 2 - 2 TYPE 0 0 #> SWAP PAD 2 - = . ." ⇒ codes "BA-1 2  ok" ∷ [])
unfolding digits_of divided
picture_in_memory = refl

converted_digits : Replies (codes "0 0 32 WORD 1234X CONVERT C@ . . ." ⇒ codes "88 0 1234  ok" ∷ codes "0 0 65535 CONVERT" ⇒ codes " ? ADDRESS" ∷ [])
unfolding digits_of divided
converted_digits = refl
