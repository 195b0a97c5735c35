-- Traces: how many digits a number has, and what comes of a line's end.
use Rattle.std.proofs.Common.{◌≡◌, ◌≤◌, ◌<◌, ◌^◌, ◌∙◌, ℕ, suc, Bool, true, false, List, [], ◌∷◌, ◌++◌, length, Option, Some, None, refl, ap, subst, append-nil, append_assoc, sym, arith}
use Rattle.std.proofs.lemmas.List.{length-map, take_all}
use Rattle.std.specs.Prelude.{◌-◌, if◌then◌else◌, MatchBool, codes, drop, map, slice_index_or, take}
use Rattle.std.specs.Io.KnownBytes.{Appends}
use Rattle.number_io.specs.Digits.{digit_char}
use Rattle.number_io.specs.Writing.{digits_of, number_text, held_of}
use Rattle.interpreter.proofs.NumeralLemmas.{length-divided, uncut}
use Rattle.interpreter.specs.declared.fault.Fault.{Fault}
use Rattle.interpreter.specs.declared.place.LeftAt.{LeftAt}
use Rattle.interpreter.specs.declared.place.Place.{Place}
use Rattle.interpreter.specs.Lines.{LineEnd, changed_below, Interpreting, Compiling, Quit, Io, Fails}
use Rattle.interpreter.specs.Promise.{FaultIs}
use Rattle.interpreter.specs.Stops.{fault_of}
use Rattle.interpreter.specs.Told.{has_aborted}
use Rattle.sessions.specs.Traces.{WritesFailure, abort_line, load_text, loads_text, shown, trace_of, undone_line, undone_text, word_text}

pub short_number : (n : ℕ) → n < 2 ^ 32 → length (number_text 10 n) ≤ 32
unfolding digits_of
short_number n h = omega (arith, length-map (digits_of 10 n) digit_char, length-divided (suc n) 31 10 n (omega arith) h)

-- a number is held whole, with nothing held before
pub whole_number : (n : ℕ) (old new : List ℕ) → old ≡ [] → new ≡ held_of (number_text 10 n ++ old) → n < 2 ^ 32 → new ≡ number_text 10 n
whole_number n old new none after h =
    let whole : number_text 10 n ++ old ≡ number_text 10 n = ap (λ l. number_text 10 n ++ l) none ∙ append-nil (number_text 10 n) in
    after ∙ ap held_of whole ∙ uncut (number_text 10 n) (omega (arith, short_number n h))

-- no fault ended the line
pub writes_none : (n : ℕ) (e : LineEnd) (left : Option LeftAt) (place : Option Place) (word : List ℕ) (loads : List Place) (old new : Option (List ℕ)) → FaultIs e None
    → MatchBool (has_aborted left) (Appends old new (abort_line n)) (new ≡ old) → WritesFailure n e left place word loads old new
writes_none n Interpreting left place word loads old new is told = told
writes_none n Compiling left place word loads old new is told = told
writes_none n Quit left place word loads old new is told = told
writes_none n Io left place word loads old new is told = told
writes_none n (Fails f) left place word loads old new is told = absurd (let no : None ≡ Some is.0 = is.1 in cc)

-- a fault did
pub writes_one : (n : ℕ) (e : LineEnd) (left : Option LeftAt) (place : Option Place) (word : List ℕ) (loads : List Place) (fault : Fault) (old new : Option (List ℕ)) → FaultIs e (Some fault)
    → Appends old new (trace_of n (fault_of fault) place word loads) → WritesFailure n e left place word loads old new
writes_one n Interpreting left place word loads fault old new is h = absurd (let no : Some fault ≡ None = is in cc)
writes_one n Compiling left place word loads fault old new is h = absurd (let no : Some fault ≡ None = is in cc)
writes_one n Quit left place word loads fault old new is h = absurd (let no : Some fault ≡ None = is in cc)
writes_one n Io left place word loads fault old new is h = absurd (let no : Some fault ≡ None = is in cc)
writes_one n (Fails f) left place word loads fault old new is h =
    let same : fault ≡ is.0 = (let e : Some fault ≡ Some is.0 = is.1 in cc) in
    subst (λ f. Appends old new (trace_of n f place word loads)) (ap fault_of same ∙ is.2) h

pub word_told : (word : List ℕ) → 0 < length word → codes ": " ++ map shown (take 31 word) ≡ word_text word
word_told [] some = absurd (omega (arith, some))
word_told (b ∷ word) some = refl

-- the first load, and then the others
pub loads_told : (loads : List Place) → 1 ≤ length loads
    → load_text (slice_index_or loads 0 (record { block = 0; to_in = 0 })) ++ loads_text (take (length loads - 1) (drop 1 loads)) ≡ loads_text loads
loads_told [] some = absurd (omega (arith, some))
loads_told (load ∷ loads) some = ap (λ l. load_text load ++ loads_text l) (take_all (length (load ∷ loads) - 1) loads (omega arith))

pub appended_as : (old mid new : Option (List ℕ)) (text told : List ℕ) → mid ≡ old → text ≡ told → Appends mid new text → Appends old new told
appended_as old mid new text told from is h = subst (λ d. Appends d new told) from (subst (λ l. Appends mid new l) is h)

-- ---- of blocks that are undone

undone_push : (n : ℕ) (xs : List ℕ) (b : ℕ) → undone_text n (xs ++ b ∷ []) ≡ undone_text n xs ++ undone_line n b
undone_push n [] b = append-nil (undone_line n b)
undone_push n (x ∷ xs) b = ap (λ l. undone_line n x ++ l) (undone_push n xs b) ∙ sym (append_assoc (undone_line n x) (undone_text n xs) (undone_line n b))

undone_more : (n : ℕ) (xs : List ℕ) (t : Bool) (b : ℕ) → undone_text n (xs ++ (if t then b ∷ [] else [])) ≡ undone_text n xs ++ (if t then undone_line n b else [])
undone_more n xs true b = undone_push n xs b
undone_more n xs false b = ap (λ l. undone_text n l) (append-nil xs) ∙ sym (append-nil (undone_text n xs))

pub undone_step : (n : ℕ) (p : ℕ → Bool) (b c : ℕ) → c ≡ suc b
    → undone_text n (changed_below p c) ≡ undone_text n (changed_below p b) ++ (if p b then undone_line n b else [])
undone_step n p b c is = ap (λ k. undone_text n (changed_below p k)) is ∙ undone_more n (changed_below p b) (p b) b

-- of the line of this number, and to the same writer
pub failure_as : (e : LineEnd) (left : Option LeftAt) (place : Option Place) (word : List ℕ) (loads : List Place) (n m : ℕ) (old mid new : Option (List ℕ)) → n ≡ m → mid ≡ old
    → WritesFailure n e left place word loads mid new → WritesFailure m e left place word loads old new
failure_as e left place word loads n m old mid new number from h =
    subst (λ k. WritesFailure k e left place word loads old new) number (subst (λ o. WritesFailure n e left place word loads o new) from h)

pub blocks_as : (n m : ℕ) (blocks : List ℕ) (mid new : Option (List ℕ)) → n ≡ m → Appends mid new (undone_text n blocks) → Appends mid new (undone_text m blocks)
blocks_as n m blocks mid new number h = subst (λ k. Appends mid new (undone_text k blocks)) number h
