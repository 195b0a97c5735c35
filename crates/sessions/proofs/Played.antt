-- A session that is computed is a session.
use Rattle.std.proofs.Common.{◌≡◌, ◌⊎◌, ℕ, zero, suc, ◌+◌, ◌-◌, ◌<◌, ◌≤◌, Bool, true, false, ◌&&◌, List, [], ◌∷◌, ◌++◌, length, take, drop, refl, sym, ap, subst, ◌∙◌, inl, inr, arith}
use Rattle.std.proofs.lemmas.List.{append-nil, take-append-drop, length-append, length-drop, drop_all}
use Rattle.number_io.specs.Taking.{BeginsWith, up_to, from}
use Rattle.number_io.proofs.Taken.{text_is_taken}
use Rattle.block_words.specs.Words.{Answer}
use Rattle.interpreter.specs.State.{Forth}
use Rattle.interpreter.specs.Lines.{line_on, between_lines}
use Rattle.sessions.specs.Cut.{IsFirstLine, line_text}
use Rattle.sessions.specs.Sessions.{Session}
use Rattle.sessions.specs.Playing.{is_empty, tried, takes, play, session}

-- ---- the first line

cut_of : (t text rest : List ℕ) → t ≡ text ++ rest → BeginsWith 10 rest → 0 < length t → (t ≡ text ++ 10 ∷ drop 1 rest) ⊎ ((t ≡ text) × (drop 1 rest ≡ []) × (0 < length text))
cut_of t text [] whole begins some =
    let same : t ≡ text = whole ∙ append-nil text in
    inr (same, refl, subst (λ l. 0 < length l) same some)
cut_of t text (c ∷ rest) whole begins some = inl (whole ∙ ap (λ b. text ++ b ∷ rest) begins)

first_line : (b : ℕ) (input : List ℕ) → IsFirstLine (b ∷ input) (up_to 10 (b ∷ input)) (drop 1 (from 10 (b ∷ input)))
first_line b input =
    let taken = text_is_taken 10 (b ∷ input) in
    record { no_feed = taken.none; cut = cut_of (b ∷ input) (up_to 10 (b ∷ input)) (from 10 (b ∷ input)) taken.whole taken.end (grind arith) }

-- what follows it is shorter
rest_shorter : (b : ℕ) (input : List ℕ) → length (drop 1 (from 10 (b ∷ input))) ≤ length input
rest_shorter b input =
    let taken = text_is_taken 10 (b ∷ input) in
    shorter (b ∷ input) (up_to 10 (b ∷ input)) (from 10 (b ∷ input)) (length input) taken.whole refl
  where
    shorter : (l front rest : List ℕ) (n : ℕ) → l ≡ front ++ rest → length l ≡ suc n → length (drop 1 rest) ≤ n
    shorter l front rest n whole size =
        let sizes : length l ≡ length front + length rest = ap (λ l. length l) whole ∙ length-append front rest in
        let less : length (drop 1 rest) ≡ length rest - 1 = length-drop 1 rest in
        omega (arith, sizes, less, size)

drop_shorter : (k n : ℕ) (l : List ℕ) → length l ≤ n → length (drop k l) ≤ n
drop_shorter k n l h = let e : length (drop k l) ≡ length l - k = length-drop k l in omega (arith, e, h)

-- ---- what a line takes

is_none : (l : List ℕ) → is_empty l ≡ true → l ≡ []
is_none [] h = refl
is_none (b ∷ l) h = absurd (let no : false ≡ true = h in cc)

both_first : (a b : Bool) → (a && b) ≡ true → a ≡ true
both_first true b h = refl
both_first false b h = h

both_second : (a b : Bool) → (a && b) ≡ true → b ≡ true
both_second true b h = h
both_second false b h = absurd (let no : false ≡ true = h in cc)

module _ (s : Forth) (bytes rest : List ℕ) (answers : List Answer) where
  abbrev met : ℕ → Bool
  met n = (line_on s bytes (take n rest) answers).world.run.at_end

  -- a line that met the end was given all
  next_tried : (k n : ℕ) (v : Bool) → met n ≡ v
      → (met (tried k (suc n) s bytes rest answers) ≡ true → drop (tried k (suc n) s bytes rest answers) rest ≡ [])
      → met (elim v [ true ↦ tried k (suc n) s bytes rest answers | false ↦ n ]) ≡ true
      → drop (elim v [ true ↦ tried k (suc n) s bytes rest answers | false ↦ n ]) rest ≡ []
  next_tried k n true is h m = h m
  next_tried k n false is h m = absurd (let no : false ≡ true = sym is ∙ m in cc)

  tried_all : (k n : ℕ) → n + k ≡ length rest → met (tried k n s bytes rest answers) ≡ true → drop (tried k n s bytes rest answers) rest ≡ []
  tried_all zero n size m = drop_all n rest (omega (arith, size))
  tried_all (suc k) n size m = next_tried k n (met n) refl (λ h. tried_all k (suc n) (omega (arith, size)) h) m

-- ---- the session

play_is : (n : ℕ) (s : Forth) (input : List ℕ) (answers : List Answer) → length input ≤ n → (play n s input answers).whole ≡ true → Session s input (play n s input answers).turns (play n s input answers).forth
play_is zero s [] answers short whole = (refl, refl)
play_is zero s (b ∷ input) answers short whole = absurd (omega (arith, short))
play_is (suc n) s [] answers short whole = (refl, refl)
play_is (suc n) s (b ∷ input) answers short whole =
    let bytes = line_text (up_to 10 (b ∷ input)) in
    let rest = drop 1 (from 10 (b ∷ input)) in
    let k = takes s bytes rest answers in
    let e = line_on s bytes (take k rest) answers in
    let later = play n (between_lines s e) (drop k rest) e.world.run.answers in (
      drop k rest,
      between_lines s e,
      record {
        bytes = up_to 10 (b ∷ input);
        rest = rest;
        first = first_line b input;
        taken = sym (take-append-drop k rest);
        at_end = λ m. tried_all s bytes rest answers (length rest) 0 (omega arith) m;
        line = record {
          answers = answers;
          ends = refl;
          placed = refl;
          led = refl;
          undone = refl;
          leaves = refl;
          taken = is_none e.world.run.input (both_first (is_empty e.world.run.input) later.whole whole);
          met = refl;
          printed = refl;
          saved = refl;
          failed = refl;
          worn = refl;
        };
      },
      play_is n (between_lines s e) (drop k rest) e.world.run.answers (drop_shorter k n rest (let r = rest_shorter b input in omega (arith, r, short))) (both_second (is_empty e.world.run.input) later.whole whole),
    )

pub played_is : (s : Forth) (input : List ℕ) (answers : List Answer) → (session s input answers).whole ≡ true → Session s input (session s input answers).turns (session s input answers).forth
played_is s input answers whole = play_is (length input) s input answers (omega arith) whole
