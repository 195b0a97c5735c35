-- How a text is cut into the rows of a screen.
use Rattle.std.proofs.Common.{◌≡◌, ◌≤◌, ◌<◌, ◌+◌, ◌-◌, ◌&&◌, ◌==◌, ℕ, zero, suc, Bool, true, false, List, [], ◌∷◌, ◌++◌, length, take, drop, map, Option, Some, None, option_map, refl, ap, sym, ◌∙◌, arith, ◌*◌, length-take, if◌then◌else◌, nat_lt, nat_le}
use Rattle.std.proofs.lemmas.List.{length-drop, length-map, take-map}
use Rattle.std.proofs.Math.ListN.{get_or-map}
use Rattle.std.proofs.lemmas.Grind.{common_steps}
use Rattle.std.proofs.lemmas.Bool.{leb-true}
use Rattle.std.specs.Io.KnownBytes.{Consumes, IsAtEnd}
use Rattle.std.specs.Prelude.{IfSome, slice_index}
use Rattle.std.specs.Io.BufRead.{strip_last, ends_with_byte}
use Rattle.number_io.specs.Taking.{up_to, from, after_text}
use Rattle.sessions.specs.Cut.{blank_for_tab, line_text}
use Rattle.terminal.specs.Screen.{longer, lines_of, texts_of, row, rows, screen_of, shown, printed}
use Rattle.terminal.proofs.TextLemmas.{read_whole}

longer_cut : (b : ℕ) (bytes : List ℕ) → longer b (lines_of bytes) ≡ (b ∷ up_to 10 bytes) ∷ lines_of (drop 1 (from 10 bytes))
longer_cut b [] = refl
longer_cut b (c ∷ cs) = ap (longer b) (go (c == 10) (longer_cut c cs))
  where
    go : (t : Bool) → longer c (lines_of cs) ≡ (c ∷ up_to 10 cs) ∷ lines_of (drop 1 (from 10 cs))
        → (if t then [] ∷ lines_of cs else longer c (lines_of cs))
        ≡ (if t then [] else c ∷ up_to 10 cs) ∷ lines_of (drop 1 (if t then c ∷ cs else from 10 cs))
    go true cut = refl
    go false cut = cut

lines_cut : (b : ℕ) (bytes : List ℕ) → lines_of (b ∷ bytes) ≡ up_to 10 (b ∷ bytes) ∷ lines_of (after_text 10 (b ∷ bytes))
lines_cut b bytes = go (b == 10)
  where
    go : (t : Bool) → (if t then [] ∷ lines_of bytes else longer b (lines_of bytes))
        ≡ (if t then [] else b ∷ up_to 10 bytes) ∷ lines_of (drop 1 (if t then b ∷ bytes else from 10 bytes))
    go true = refl
    go false = longer_cut b bytes

tab_return : (b : ℕ) → (blank_for_tab b == 13) ≡ (b == 13)
tab_return b = grind (arith, common_steps)

ends_same : (xs : List ℕ) → ends_with_byte 13 (map blank_for_tab xs) ≡ ends_with_byte 13 xs
ends_same xs =
    ap (λ n. nat_lt 0 n && (slice_index (map blank_for_tab xs) (n - 1) == 13)) (length-map xs blank_for_tab)
    ∙ ap (λ v. nat_lt 0 (length xs) && (v == 13)) (get_or-map blank_for_tab xs (length xs - 1) 0)
    ∙ ap (λ t. nat_lt 0 (length xs) && t) (tab_return (slice_index xs (length xs - 1)))

strip_tabs : (xs : List ℕ) → strip_last 13 (map blank_for_tab xs) ≡ map blank_for_tab (strip_last 13 xs)
strip_tabs xs = ap (λ t. if t then take (length (map blank_for_tab xs) - 1) (map blank_for_tab xs) else map blank_for_tab xs) (ends_same xs)
    ∙ go (ends_with_byte 13 xs)
  where
    go : (t : Bool) → (if t then take (length (map blank_for_tab xs) - 1) (map blank_for_tab xs) else map blank_for_tab xs)
        ≡ map blank_for_tab (if t then take (length xs - 1) xs else xs)
    go true = ap (λ n. take (n - 1) (map blank_for_tab xs)) (length-map xs blank_for_tab) ∙ take-map blank_for_tab (length xs - 1) xs
    go false = refl

opt_append : (xs ys : List ℕ) (o : Option (List ℕ)) → option_map (λ b. (xs ++ ys) ++ b) o ≡ option_map (λ b. xs ++ b) (option_map (λ b. ys ++ b) o)
opt_append xs ys None = refl
opt_append xs ys (Some b) = search (common_steps)

rows_cut : (n : ℕ) (bytes : List ℕ) → rows (suc n) (texts_of bytes)
    ≡ (if nat_le (length (line_text (up_to 10 bytes))) 64 then option_map (λ b. row (line_text (up_to 10 bytes)) ++ b) (rows n (texts_of (after_text 10 bytes))) else None)
rows_cut n [] = refl
rows_cut n (b ∷ bytes) = ap (λ l. rows (suc n) (map line_text l)) (lines_cut b bytes)

text_is : (bytes line : List ℕ) → line ≡ strip_last 13 (up_to 10 bytes) → line_text (up_to 10 bytes) ≡ map blank_for_tab line
text_is bytes line is = strip_tabs (up_to 10 bytes) ∙ ap (map blank_for_tab) (sym is)

-- the first line of a text as it is read, and those after it
pub texts_cut : (bytes line : List ℕ) → 0 < length bytes → line ≡ strip_last 13 (up_to 10 bytes)
    → texts_of bytes ≡ map blank_for_tab line ∷ texts_of (after_text 10 bytes)
texts_cut [] line some is = absurd (omega (arith, some))
texts_cut (b ∷ bytes) line some is = ap (map line_text) (lines_cut b bytes) ∙ ap (λ l. l ∷ texts_of (after_text 10 (b ∷ bytes))) (text_is (b ∷ bytes) line is)

from_length : (bytes : List ℕ) → length (from 10 bytes) ≤ length bytes
from_length [] = omega arith
from_length (b ∷ bytes) = go (b == 10) (from_length bytes)
  where
    go : (t : Bool) → length (from 10 bytes) ≤ length bytes → length (if t then b ∷ bytes else from 10 bytes) ≤ length (b ∷ bytes)
    go true less = omega arith
    go false less = omega (arith, less)

pub after_shorter : (bytes : List ℕ) → 0 < length bytes → length (after_text 10 bytes) < length bytes
after_shorter bytes some = omega (arith, some, from_length bytes, length-drop 1 (from 10 bytes))

-- one row more
pub screen_step : (n : ℕ) (block bytes line : List ℕ) → line ≡ strip_last 13 (up_to 10 bytes) → length line ≤ 64
    → option_map (λ b. (block ++ row (map blank_for_tab line)) ++ b) (rows n (texts_of (after_text 10 bytes)))
    ≡ option_map (λ b. block ++ b) (rows (suc n) (texts_of bytes))
screen_step n block bytes line is fits =
    let t = text_is bytes line is in
    let short : nat_le (length (map blank_for_tab line)) 64 ≡ true = rw (length-map line blank_for_tab) (search (fits, arith)) in
    opt_append block (row (map blank_for_tab line)) (rows n (texts_of (after_text 10 bytes)))
    ∙ ap (option_map (λ b. block ++ b))
    (sym (rows_cut n bytes ∙ ap (λ l. if nat_le (length l) 64 then option_map (λ b. row l ++ b) (rows n (texts_of (after_text 10 bytes))) else None) t
    ∙ ap (λ c. if c then option_map (λ b. row (map blank_for_tab line) ++ b) (rows n (texts_of (after_text 10 bytes))) else None) short))

-- a line that is too long
pub screen_stop : (n : ℕ) (bytes line : List ℕ) → line ≡ strip_last 13 (up_to 10 bytes) → 64 < length line
    → rows (suc n) (texts_of bytes) ≡ None
screen_stop n bytes line is long =
    let t = text_is bytes line is in
    let short : nat_le (length (map blank_for_tab line)) 64 ≡ false = rw (length-map line blank_for_tab) (search (long, arith)) in
    rows_cut n bytes ∙ ap (λ l. if nat_le (length l) 64 then option_map (λ b. row l ++ b) (rows n (texts_of (after_text 10 bytes))) else None) t
    ∙ ap (λ c. if c then option_map (λ b. row (map blank_for_tab line) ++ b) (rows n (texts_of (after_text 10 bytes))) else None) short

-- after the last row
pub screen_left : (block bytes : List ℕ) → 0 < length bytes → option_map (λ b. block ++ b) (rows 0 (texts_of bytes)) ≡ None
screen_left block [] some = absurd (omega arith)
screen_left block (b ∷ bytes) some = ap (λ l. option_map (λ b. block ++ b) (rows 0 (map line_text l))) (lines_cut b bytes)

-- one row more is printed
pub printed_step : (n m : ℕ) (lines new bytes : List ℕ) → m ≡ suc n → new ≡ lines ++ map shown (take 64 bytes) ++ 10 ∷ []
    → new ++ printed n (drop 64 bytes) ≡ lines ++ printed m bytes
printed_step n m lines new bytes is e = rw (is, e) (search (common_steps))

-- ---- the longest text of a screen

stripped : (t : Bool) (xs : List ℕ) → length xs ≤ length (if t then take (length xs - 1) xs else xs) + 1
stripped true xs = omega (arith, length-take (length xs - 1) xs)
stripped false xs = omega arith

text_length : (bytes : List ℕ) → length bytes ≤ length (line_text bytes) + 1
text_length bytes = omega (arith, stripped (ends_with_byte 13 (map blank_for_tab bytes)) (map blank_for_tab bytes), length-map bytes blank_for_tab)

cut_length : (bytes : List ℕ) → length bytes ≤ length (up_to 10 bytes) + 1 + length (after_text 10 bytes)
cut_length [] = omega arith
cut_length (b ∷ bytes) = go (b == 10) (cut_length bytes)
  where
    go : (t : Bool) → length bytes ≤ length (up_to 10 bytes) + 1 + length (after_text 10 bytes)
        → length (b ∷ bytes) ≤ length (if t then [] else b ∷ up_to 10 bytes) + 1 + length (drop 1 (if t then b ∷ bytes else from 10 bytes))
    go true less = omega arith
    go false less = omega (arith, less)

rows_length : (n : ℕ) (bytes block : List ℕ) → rows n (texts_of bytes) ≡ Some block → length bytes ≤ 66 * n
rows_length zero [] block e = omega arith
rows_length zero (b ∷ bytes) block e =
    let bad : None ≡ Some block = sym (ap (λ l. rows 0 (map line_text l)) (lines_cut b bytes)) ∙ e in
    cc
rows_length (suc n) bytes block e =
    go (nat_le (length (line_text (up_to 10 bytes))) 64) refl (rows n (texts_of (after_text 10 bytes))) refl (sym (rows_cut n bytes) ∙ e)
    (λ below is. rows_length n (after_text 10 bytes) below is)
  where
    go : (t : Bool) → nat_le (length (line_text (up_to 10 bytes))) 64 ≡ t
        → (o : Option (List ℕ)) → rows n (texts_of (after_text 10 bytes)) ≡ o
        → (if nat_le (length (line_text (up_to 10 bytes))) 64 then option_map (λ b. row (line_text (up_to 10 bytes)) ++ b) (rows n (texts_of (after_text 10 bytes))) else None) ≡ Some block
        → ((below : List ℕ) → rows n (texts_of (after_text 10 bytes)) ≡ Some below → length (after_text 10 bytes) ≤ 66 * n)
        → length bytes ≤ 66 * suc n
    go true short (Some below) is whole less =
        let fits : length (line_text (up_to 10 bytes)) ≤ 64 = leb-true _ _ short in
        omega (arith, fits, less below is, cut_length bytes, text_length (up_to 10 bytes))
    go true short None is whole less =
        let bad : None ≡ Some block = rw (short, is) at whole in
        cc
    go false short o is whole less =
        let bad : None ≡ Some block = rw short at whole in
        cc

none_by : (o : Option (List ℕ)) → ((block : List ℕ) → o ≡ Some block → ⊥) → o ≡ None
none_by None never = refl
none_by (Some block) never = absurd (never block refl)

-- a longer one is none
pub too_long : (bytes : List ℕ) → 1056 < length bytes → screen_of bytes ≡ None
too_long bytes long = none_by (screen_of bytes) (λ block e. let short = rows_length 16 bytes block e in omega arith)

-- what says a screen was read to its end, since there was room for more
pub screen_whole : (before after : Option (List ℕ)) (items block : List ℕ) → Consumes before after items → (length items < 1057 → IsAtEnd after)
    → screen_of items ≡ Some block → IfSome before (λ left. items ≡ left)
screen_whole before after items block read end said =
    let short = rows_length 16 items block said in read_whole before after items read (end (omega (arith, short)))
