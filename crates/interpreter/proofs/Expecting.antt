-- Readings of the input.
use Rattle.std.proofs.Common.{◌≡◌, ◌≢◌, ◌⊎◌, ℕ, zero, suc, ◌+◌, ◌-◌, ◌<◌, ◌≤◌, Bool, true, false, List, [], ◌∷◌, ◌++◌, length, take, drop, Option, Some, None, Result, Ok, Err, ⊎_elim, inl, inr, refl, sym, ap, subst, ◌∙◌, append_assoc, arith}
use Rattle.std.specs.Prelude.{nat_lt, ◌==◌, ◌||◌, if◌then◌else◌}
use Rattle.std.proofs.lemmas.Bool.{le-ltb, lt-ltb, ltb-true, cases_lt}
use Rattle.std.proofs.KnownBytes.{Appends-nil}
use Rattle.data_space.specs.Space.{with_cell}
use Rattle.cell_machine.specs.Frames.{Level}
use Rattle.interpreter.specs.declared.fault.Stop.{Stop}
use Rattle.interpreter.specs.declared.fault.Stop.TheVariants as stop
use Rattle.interpreter.specs.declared.fault.Fault.TheVariants as found
use Rattle.interpreter.specs.Representation.{core, Represents, RepresentsAfter}
use Rattle.interpreter.specs.Deeds.{nothing}
use Rattle.interpreter.specs.ServiceContract.{Comes, Ran}
use Rattle.interpreter.proofs.Running.{OnlyNow, maps_same, heard_nothing}
use Rattle.interpreter.proofs.Then.{heard_then, or-true}
use Rattle.std.proofs.lemmas.List.{append-nil, length-append, take-append-drop, set_split, drop-drop, take_all, length-take-le}
use Rattle.std.proofs.Math.ListN.{drop_of_length-le}
use Rattle.std.proofs.Math.Seq.{take-append_seam, drop-append_seam}
use Rattle.data_space.specs.Space.{with_bytes, with_byte}
use Rattle.cell_machine.specs.Fault.{EndOfInput, StackFull, Faults, Breaks}
use Rattle.interpreter.proofs.Calls.{call-well}
use Rattle.interpreter.proofs.Short.{needing-yes}
use Rattle.cell_machine.specs.Frames.{Core, branch}
use Rattle.cell_machine.specs.Value.{Outcome, Did, Ends}
use Rattle.interpreter.specs.State.{World, Run, with_run, with_input, with_terminal, needing, set_cell, span_cell}
use Rattle.interpreter.specs.Terminals.{stored, unread, meets_end, asked, store_input, expect_done, expect_of, terminal_call, key_of}
use Rattle.interpreter.specs.Deeds.{Deed, longer, before, after, mended, Fits}
use Rattle.interpreter.specs.Law.{run_after, Grows, IsWithin}
use Rattle.interpreter.specs.ServiceContract.{Broke, Heard}
use Rattle.interpreter.specs.Reading.{Reading, reads, Filling, Stepped}
use Rattle.sector_disk.specs.declared.device.SectorDevice.{Ghosts}
use Rattle.interpreter.specs.declared.terminal.Terminal.{Ghosts as TerminalGhosts}
use Rattle.interpreter.specs.declared.forth.Forth.{Forth}
use Rattle.block_words.proofs.Worn.{none_more}
use Rattle.interpreter.proofs.Wearing.{within_none}

-- ---- parts of a reading

pub reading_none : (u : ℕ) → Reading u [] [] u
reading_none u = record { stored = λ rest. refl; unread = λ rest. refl; meets_end = λ rest. refl; asked = λ rest. omega arith }

pub reading_then : {u left left' : ℕ} {given given' bytes bytes' : List ℕ} → Reading u given bytes left → Reading left given' bytes' left' → Reading u (given ++ given') (bytes ++ bytes') left'
reading_then {u} {left} {left'} {given} {given'} {bytes} {bytes'} h k = record {
  stored = λ rest. ap (λ l. stored u l) (append_assoc given given' rest) ∙ h.stored (given' ++ rest) ∙ ap (λ l. bytes ++ l) (k.stored rest) ∙ sym (append_assoc bytes bytes' (stored left' rest));
  unread = λ rest. ap (λ l. unread u l) (append_assoc given given' rest) ∙ h.unread (given' ++ rest) ∙ k.unread rest;
  meets_end = λ rest. ap (λ l. meets_end u l) (append_assoc given given' rest) ∙ h.meets_end (given' ++ rest) ∙ k.meets_end rest;
  asked = λ rest.
      ap (λ l. asked u l) (append_assoc given given' rest) ∙ h.asked (given' ++ rest) ∙ ap (λ n. length given + n) (k.asked rest)
      ∙ (let e : length given + (length given' + asked left' rest) ≡ length (given ++ given') + asked left' rest = omega (arith, length-append given given') in e);
}

-- a byte by cases: a line feed, a carriage return, another
one_byte : (u b : ℕ) (feed return : Bool) → (b == 10) ≡ feed → (b == 13) ≡ return → Reading (suc u) (b ∷ []) (if feed then [] else (if return then [] else b ∷ [])) (if feed then 0 else (if return then suc u else u))
one_byte u b true return is is' = record {
  stored = λ rest. ap (λ t. if t then [] else (if b == 13 then stored (suc u) rest else b ∷ stored u rest)) is;
  unread = λ rest. ap (λ t. if t then rest else (if b == 13 then unread (suc u) rest else unread u rest)) is;
  meets_end = λ rest. ap (λ t. if t then false else (if b == 13 then meets_end (suc u) rest else meets_end u rest)) is;
  asked = λ rest. ap (λ t. if t then 1 else suc (if b == 13 then asked (suc u) rest else asked u rest)) is;
}
one_byte u b false true is is' = record {
  stored = λ rest. ap (λ t. if t then [] else (if b == 13 then stored (suc u) rest else b ∷ stored u rest)) is ∙ ap (λ t. if t then stored (suc u) rest else b ∷ stored u rest) is';
  unread = λ rest. ap (λ t. if t then rest else (if b == 13 then unread (suc u) rest else unread u rest)) is ∙ ap (λ t. if t then unread (suc u) rest else unread u rest) is';
  meets_end = λ rest. ap (λ t. if t then false else (if b == 13 then meets_end (suc u) rest else meets_end u rest)) is ∙ ap (λ t. if t then meets_end (suc u) rest else meets_end u rest) is';
  asked = λ rest. ap (λ t. if t then 1 else suc (if b == 13 then asked (suc u) rest else asked u rest)) is ∙ ap (λ t. suc (if t then asked (suc u) rest else asked u rest)) is' ∙ (let e : suc (asked (suc u) rest) ≡ 1 + asked (suc u) rest = omega arith in e);
}
one_byte u b false false is is' = record {
  stored = λ rest. ap (λ t. if t then [] else (if b == 13 then stored (suc u) rest else b ∷ stored u rest)) is ∙ ap (λ t. if t then stored (suc u) rest else b ∷ stored u rest) is';
  unread = λ rest. ap (λ t. if t then rest else (if b == 13 then unread (suc u) rest else unread u rest)) is ∙ ap (λ t. if t then unread (suc u) rest else unread u rest) is';
  meets_end = λ rest. ap (λ t. if t then false else (if b == 13 then meets_end (suc u) rest else meets_end u rest)) is ∙ ap (λ t. if t then meets_end (suc u) rest else meets_end u rest) is';
  asked = λ rest. ap (λ t. if t then 1 else suc (if b == 13 then asked (suc u) rest else asked u rest)) is ∙ ap (λ t. suc (if t then asked (suc u) rest else asked u rest)) is' ∙ (let e : suc (asked u rest) ≡ 1 + asked u rest = omega arith in e);
}

pub reading_feed : (u : ℕ) → 0 < u → Reading u (10 ∷ []) [] 0
reading_feed zero some = absurd (omega (arith, some))
reading_feed (suc u) some = one_byte u 10 true false refl refl

pub reading_return : (u : ℕ) → 0 < u → Reading u (13 ∷ []) [] u
reading_return zero some = absurd (omega (arith, some))
reading_return (suc u) some = one_byte u 13 false true refl refl

pub reading_other : (u left b : ℕ) → u ≡ left + 1 → b ≢ 10 → b ≢ 13 → Reading u (b ∷ []) (b ∷ []) left
reading_other u left b is no_feed no_return =
    let e : suc left ≡ u = omega (arith, is) in
    subst (λ u. Reading u (b ∷ []) (b ∷ []) left) e (one_byte left b false false (search (arith, no_feed)) (search (arith, no_return)))

-- ---- what it comes to

stored_nothing : (left : ℕ) → stored left [] ≡ []
stored_nothing zero = refl
stored_nothing (suc left) = refl

unread_nothing : (left : ℕ) → unread left [] ≡ []
unread_nothing zero = refl
unread_nothing (suc left) = refl

met_nothing : (left : ℕ) → 0 < left → meets_end left [] ≡ true
met_nothing zero some = absurd (omega (arith, some))
met_nothing (suc left) some = refl

asked_nothing : (left : ℕ) → 0 < left → asked left [] ≡ 1
asked_nothing zero some = absurd (omega (arith, some))
asked_nothing (suc left) some = refl

not_none : (u : ℕ) → 0 < u → (u == 0) ≡ false
not_none u some = let n : u ≢ 0 = λ zero. omega (arith, some, zero) in search (arith, n)

asked_if : (a b : Bool) (m n : ℕ) → 0 < (if a then 1 else suc (if b then m else n))
asked_if true b m n = omega arith
asked_if false b m n = omega arith

asked_some : (left : ℕ) (rest : List ℕ) → 0 < left → 0 < asked left rest
asked_some zero rest some = absurd (omega (arith, some))
asked_some (suc left) [] some = omega arith
asked_some (suc left) (b ∷ rest) some = asked_if (b == 10) (b == 13) (asked (suc left) rest) (asked left rest)

after-reads : (given : List ℕ) (met : Bool) (calls : ℕ) (r : Run) → record r { at_end = met || r.at_end } ≡ after (reads given met calls) r
after-reads given met calls r =
    let e : r.failures ≡ r.failures + 0 = omega arith in
    λ t. record r {
      failures = e t;
      wear = sym (none_more r.wear) t;
      at_end = met || r.at_end;
      saves = sym (append-nil r.saves) t;
      output = sym (append-nil r.output) t;
    }

-- nothing is printed and saved, and nothing wears
record IsSilent (p q : Run) : Type 0 where
  output : q.output ≡ p.output
  saves : q.saves ≡ p.saves
  wear : q.wear ≡ p.wear

silent_grows : (given : List ℕ) (met : Bool) (calls : ℕ) (r q : Run) → IsSilent r q → Grows (after (mended (reads given met calls)) r) q
silent_grows given met calls r q h = record {
  output = ([], h.output ∙ sym (append-nil r.output) ∙ sym (append-nil (r.output ++ [])));
  saves = ([], h.saves ∙ sym (append-nil r.saves) ∙ sym (append-nil (r.saves ++ [])));
  wear = subst (λ w. IsWithin (after (mended (reads given met calls)) r).wear w) (sym h.wear) (within_none r.wear);
}

module _ (a u : ℕ) where
  -- a terminal that fails only later
  asks_well : (t : Option ℕ) (n : ℕ) (c : Core) (x : World) → asked u x.run.input ≡ n → expect_of (longer n t) a u c (with_terminal (longer n t) x) ≡ expect_done a u c (with_terminal t x)
  asks_well None n c x is = refl
  asks_well (Some k) n c x is =
      let late : nat_lt (n + k) (asked u x.run.input) ≡ false = le-ltb _ _ (omega (arith, is)) in
      let over : n + k - asked u x.run.input ≡ k = omega (arith, is) in
      ap (λ t. branch t c (λ c. Ends Breaks (store_input a (stored u (take (n + k) x.run.input)) c) (with_input (drop (n + k) x.run.input) x.run.at_end (with_terminal (Some (n + k)) x)))
      (λ c. expect_done a u c (with_terminal (Some (n + k - asked u x.run.input)) x))) late
      ∙ ap (λ m. expect_done a u c (with_terminal (Some m) x)) over

  abbrev pub finished : (left : List ℕ) (met some : Bool) (bytes : List ℕ) → Core → World → Outcome World
  finished left met some bytes c x =
      let y = with_input left (met || x.run.at_end) x in
      needing some EndOfInput c y (λ c. Did (set_cell span_cell (length bytes) (store_input a bytes c)) y)

  pub reads_well : (given : List ℕ) (met : Bool) (calls : ℕ) (some : Bool) (bytes : List ℕ) (c : Core) (x : World) (r : Run)
      → asked u (given ++ r.input) ≡ calls → unread u (given ++ r.input) ≡ r.input → meets_end u (given ++ r.input) ≡ met
      → (u == 0 || nat_lt 0 (length (given ++ r.input))) ≡ some → stored u (given ++ r.input) ≡ bytes
      → expect_of (longer calls r.terminal) a u c (with_run (before (reads given met calls) r) x)
      ≡ needing some EndOfInput c (with_run (after (reads given met calls) r) x) (λ c. Did (set_cell span_cell (length bytes) (store_input a bytes c)) (with_run (after (reads given met calls) r) x))
  reads_well given met calls some bytes c x r asks rests meets is keeps =
      asks_well r.terminal calls c (with_run (before (reads given met calls) r) x) asks
      ∙ (λ t. finished (rests t) (meets t) (is t) (keeps t) c (with_terminal r.terminal (with_run (before (reads given met calls) r) x)))
      ∙ ap (λ r. needing some EndOfInput c (with_run r x) (λ c. Did (set_cell span_cell (length bytes) (store_input a bytes c)) (with_run r x))) (after-reads given met calls r)

  -- it met the end, after these bytes
  pub met_well : (given bytes : List ℕ) (left : ℕ) (some : Bool) (c : Core) (x : World) (r : Run) → Reading u given bytes left → 0 < left → left ≤ u → some ≡ nat_lt 0 (length given) → r.input ≡ []
      → expect_of (longer (length given + 1) r.terminal) a u c (with_run (before (reads given true (length given + 1)) r) x)
      ≡ needing some EndOfInput c (with_run (after (reads given true (length given + 1)) r) x) (λ c. Did (set_cell span_cell (length bytes) (store_input a bytes c)) (with_run (after (reads given true (length given + 1)) r) x))
  met_well given bytes left some c x r h more le is none =
      reads_well given true (length given + 1) some bytes c x r
      (ap (λ l. asked u (given ++ l)) none ∙ h.asked [] ∙ ap (λ n. length given + n) (asked_nothing left more))
      (ap (λ l. unread u (given ++ l)) none ∙ h.unread [] ∙ unread_nothing left ∙ sym none)
      (ap (λ l. meets_end u (given ++ l)) none ∙ h.meets_end [] ∙ met_nothing left more)
      (ap (λ l. u == 0 || nat_lt 0 (length (given ++ l))) none ∙ ap (λ l. u == 0 || nat_lt 0 (length l)) (append-nil given) ∙ ap (λ b. b || nat_lt 0 (length given)) (not_none u (omega (arith, more, le))) ∙ sym is)
      (ap (λ l. stored u (given ++ l)) none ∙ h.stored [] ∙ ap (λ l. bytes ++ l) (stored_nothing left) ∙ append-nil bytes)

  -- all was read
  pub full_well : (given bytes : List ℕ) (left : ℕ) (c : Core) (x : World) (r : Run) → Reading u given bytes left → left ≡ 0 → (u ≡ 0) ⊎ (0 < length given)
      → expect_of (longer (length given) r.terminal) a u c (with_run (before (reads given false (length given)) r) x)
      ≡ needing true EndOfInput c (with_run (after (reads given false (length given)) r) x) (λ c. Did (set_cell span_cell (length bytes) (store_input a bytes c)) (with_run (after (reads given false (length given)) r) x))
  full_well given bytes left c x r h0 is some =
      let h : Reading u given bytes 0 = subst (λ n. Reading u given bytes n) is h0 in
      let n : length given + 0 ≡ length given = omega arith in
      reads_well given false (length given) true bytes c x r (h.asked r.input ∙ n) (h.unread r.input) (h.meets_end r.input)
      (⊎_elim (λ zero. ap (λ n. n == 0 || nat_lt 0 (length (given ++ r.input))) zero)
      (λ more. ap (λ b. u == 0 || b) (lt-ltb 0 (length (given ++ r.input)) (omega (arith, more, length-append given r.input))) ∙ or-true (u == 0)) some)
      (h.stored r.input ∙ append-nil bytes)

  expect_ends : (some : Bool) (c : Core) (d : Core → Core) (y : World) → (run_after (needing some EndOfInput c y (λ c. Did (d c) y))) ≡ y.run
  expect_ends true c d y = refl
  expect_ends false c d y = refl

  after_expect : (c : Core) (x : World) → run_after (expect_done a u c x) ≡ (with_input (unread u x.run.input) (meets_end u x.run.input || x.run.at_end) x).run
  after_expect c x =
      expect_ends (u == 0 || nat_lt 0 (length x.run.input)) c (λ c. set_cell span_cell (length (stored u x.run.input)) (store_input a (stored u x.run.input) c)) (with_input (unread u x.run.input) (meets_end u x.run.input || x.run.at_end) x)

  -- a reading prints nothing
  expect_silent : (t : Option ℕ) (c : Core) (x : World) → IsSilent x.run (run_after (expect_of t a u c x))
  expect_silent None c x = subst (λ q. IsSilent x.run q) (sym (after_expect c x)) (record { output = refl; saves = refl; wear = refl })
  expect_silent (Some k) c x = by_case (nat_lt k (asked u x.run.input))
    where
      by_case : (b : Bool) → IsSilent x.run (run_after (branch b c (λ c. Ends Breaks (store_input a (stored u (take k x.run.input)) c) (with_input (drop k x.run.input) x.run.at_end x)) (λ c. expect_done a u c (with_terminal (Some (k - asked u x.run.input)) x))))
      by_case true = record { output = refl; saves = refl; wear = refl }
      by_case false = subst (λ q. IsSilent x.run q) (sym (after_expect c (with_terminal (Some (k - asked u x.run.input)) x))) (record { output = refl; saves = refl; wear = refl })

  -- The terminal fails once these bytes were given.
  pub reads_broke : (given bytes : List ℕ) (left : ℕ) (c d : Core) (x : World) → Reading u given bytes left → 0 < left → d.space ≡ with_bytes c.space a bytes
      → Broke (λ r. expect_of r.terminal a u c (with_run r x)) (reads given false (length given)) d x
  reads_broke given bytes left c d x h some same = record {
    core = store_input a bytes c;
    like = sym same;
    breaks = λ r fits none.
        let first : asked u (given ++ r.input) ≡ length given + asked left r.input = h.asked r.input in
        let more = asked_some left r.input some in
        let soon : nat_lt (length given + 0) (asked u (given ++ r.input)) ≡ true = lt-ltb _ _ (omega (arith, first, more)) in
        let count : length given + 0 ≡ length given = omega arith in
        let fronts : take (length given) (given ++ r.input) ≡ given = take-append_seam given r.input in
        let ends : drop (length given) (given ++ r.input) ≡ r.input = drop-append_seam given r.input in
        let keeps : stored u given ≡ bytes = ap (λ l. stored u l) (sym (append-nil given)) ∙ h.stored [] ∙ ap (λ l. bytes ++ l) (stored_nothing left) ∙ append-nil bytes in
        record {
          run = record (before (reads given false (length given)) r) { input = r.input; terminal = longer (length given) r.terminal };
          ends = ap (λ t. expect_of (longer (length given) t) a u c (with_run (record (before (reads given false (length given)) r) { terminal = longer (length given) r.terminal }) x)) none
              ∙ ap (λ t. branch t c (λ c. Ends Breaks (store_input a (stored u (take (length given + 0) (given ++ r.input))) c) (with_input (drop (length given + 0) (given ++ r.input)) r.at_end (with_run (before (reads given false (length given)) r) x)))
              (λ c. expect_done a u c (with_terminal (Some (length given + 0 - asked u (given ++ r.input))) (with_run (before (reads given false (length given)) r) x)))) soon
              ∙ ap (λ n. Ends Breaks (store_input a (stored u (take n (given ++ r.input))) c) (with_input (drop n (given ++ r.input)) r.at_end (with_run (before (reads given false (length given)) r) x))) count
              ∙ (λ t. Ends Breaks (store_input a ((ap (λ l. stored u l) fronts ∙ keeps) t) c) (with_input (ends t) r.at_end (with_run (before (reads given false (length given)) r) x)));
          input = refl;
          output = sym (append-nil r.output);
          saves = sym (append-nil r.saves);
        };
    grows = λ r fits.
        let d : Deed = mended (reads given false (length given)) in
        let silent = expect_silent (longer (length given + 1) r.terminal) c (with_run (before d r) x) in
        silent_grows given false (length given) r (run_after (expect_of (longer (length given + 1) r.terminal) a u c (with_run (before d r) x))) (record { output = silent.output; saves = silent.saves; wear = silent.wear });
    input = λ r fits never none.
        ap (λ o. o.input) (goes r never) ∙ ap (λ l. unread u (given ++ l)) none ∙ h.unread [] ∙ unread_nothing left;
    answers = λ r fits never none. ap (λ o. o.answers) (goes r never) ∙ none;
    failures = λ r fits never none. subst (λ o. o.failures ≡ r.failures + 0) (sym (goes r never)) (omega arith);
  }
    where
      goes : (r : Run) → r.terminal ≡ None → run_after (expect_of (longer (length given) r.terminal) a u c (with_run (before (reads given false (length given)) r) x)) ≡ record (before (reads given false (length given)) r) { input = unread u (given ++ r.input); at_end = meets_end u (given ++ r.input) || r.at_end }
      goes r never =
          ap (λ t. run_after (expect_of (longer (length given) t) a u c (with_run (before (reads given false (length given)) r) x))) never
          ∙ after_expect c (with_run (before (reads given false (length given)) r) x)

-- ---- what is stored

pub with_none : (space : List ℕ) (a : ℕ) → with_bytes space a [] ≡ space
with_none space a = take-append-drop a space

pub with_one : (space : List ℕ) (a b : ℕ) → a < length space → with_byte space a b ≡ with_bytes space a (b ∷ [])
with_one space a b h =
    let n : suc a ≡ a + 1 = omega arith in
    let e : drop (suc a) space ≡ drop 1 (drop a space) = ap (λ n. drop n space) n ∙ sym (drop-drop 1 a space) in
    set_split space a b h ∙ ap (λ l. take a space ++ b ∷ l) e

drop_none : (n : ℕ) → (let none : List ℕ = [] in drop n none) ≡ []
drop_none zero = refl
drop_none (suc n) = refl

after_front : (front bytes rest more : List ℕ) (n : ℕ) → n ≡ length front + length bytes
    → take n (front ++ (bytes ++ rest)) ++ (more ++ drop (length more) (drop n (front ++ (bytes ++ rest)))) ≡ front ++ ((bytes ++ more) ++ drop (length more) rest)
after_front front bytes rest more n is =
    let e : n ≡ length (front ++ bytes) = omega (arith, is, length-append front bytes) in
    let whole : front ++ (bytes ++ rest) ≡ (front ++ bytes) ++ rest = sym (append_assoc front bytes rest) in
    let fronts : take n (front ++ (bytes ++ rest)) ≡ front ++ bytes = (λ t. take (e t) (whole t)) ∙ take-append_seam (front ++ bytes) rest in
    let ends : drop n (front ++ (bytes ++ rest)) ≡ rest = (λ t. drop (e t) (whole t)) ∙ drop-append_seam (front ++ bytes) rest in
    (λ t. fronts t ++ (more ++ drop (length more) (ends t)))
    ∙ append_assoc front bytes (more ++ drop (length more) rest)
    ∙ ap (λ l. front ++ l) (sym (append_assoc bytes more (drop (length more) rest)))

-- where it lies within, or all behind the end
pub with_then : (space bytes more : List ℕ) (a : ℕ) → with_bytes (with_bytes space a bytes) (a + length bytes) more ≡ with_bytes space a (bytes ++ more)
with_then space bytes more a = ⊎_elim behind within (cases_lt (length space) a)
  where
    within : a ≤ length space → with_bytes (with_bytes space a bytes) (a + length bytes) more ≡ with_bytes space a (bytes ++ more)
    within le =
        let n : a + length bytes ≡ length (take a space) + length bytes = ap (λ k. k + length bytes) (sym (length-take-le a space le)) in
        after_front (take a space) bytes (drop (length bytes) (drop a space)) more (a + length bytes) n
        ∙ ap (λ l. take a space ++ ((bytes ++ more) ++ l)) (drop-drop (length more) (length bytes) (drop a space) ∙ ap (λ k. drop k (drop a space)) (sym (length-append bytes more)))

    behind : length space < a → with_bytes (with_bytes space a bytes) (a + length bytes) more ≡ with_bytes space a (bytes ++ more)
    behind lt =
        let none : drop a space ≡ [] = drop_of_length-le space (omega (arith, lt)) in
        let all : take a space ≡ space = take_all a space (omega (arith, lt)) in
        let whole : take a space ++ (bytes ++ drop (length bytes) (drop a space)) ≡ space ++ bytes =
        (λ t. all t ++ (bytes ++ drop (length bytes) (none t))) ∙ ap (λ l. space ++ (bytes ++ l)) (drop_none (length bytes)) ∙ ap (λ l. space ++ l) (append-nil bytes) in
        let over : length (space ++ bytes) ≤ a + length bytes = omega (arith, lt, length-append space bytes) in
        let fronts : take (a + length bytes) (space ++ bytes) ≡ space ++ bytes = take_all (a + length bytes) (space ++ bytes) over in
        let ends : drop (a + length bytes) (space ++ bytes) ≡ [] = drop_of_length-le (space ++ bytes) over in
        (λ t. take (a + length bytes) (whole t) ++ (more ++ drop (length more) (drop (a + length bytes) (whole t))))
        ∙ (λ t. fronts t ++ (more ++ drop (length more) (ends t)))
        ∙ ap (λ l. (space ++ bytes) ++ (more ++ l)) (drop_none (length more))
        ∙ append_assoc space bytes (more ++ [])
        ∙ ap (λ l. space ++ l) (sym (append_assoc bytes more []))
        ∙ ap (λ l. space ++ ((bytes ++ more) ++ l)) (sym (drop_none (length (bytes ++ more))))
        ∙ (λ t. sym all t ++ ((bytes ++ more) ++ drop (length (bytes ++ more)) (sym none t)))

none_of : (l : List ℕ) → length l ≡ 0 → l ≡ []
none_of [] is = refl
none_of (b ∷ l) is = absurd (omega (arith, is))

module _ {D T : Type 0} {G : Ghosts D} (H : TerminalGhosts T) where
  pub stepped : {a u count left : ℕ} (b : ℕ) (bytes space : List ℕ) (old : Forth D G) {t t' : T}
      → Heard H (Ok tt) (reads (b ∷ []) false 1) t t' → H.may_give t' < H.may_give t
      → Reading u (b ∷ []) bytes left → count ≡ length bytes → count + left ≤ u → space ≡ with_bytes old.space a bytes
      → Stepped H a u count left old (record old { space = space }) t t'
  stepped {a} {u} {count} {left} b bytes space old {t} {t'} heard fewer reading counted room same = record {
    filling = record {
      given = b ∷ [];
      bytes = bytes;
      reading = reading;
      counted = counted;
      room = room;
      space = same;
      rest = refl;
      heard = heard;
    };
    some = omega arith;
    fewer = fewer;
  }

  pub filling_none : (a u : ℕ) (f : Forth D G) (t : T) → Filling H a u 0 u f f t t
  filling_none a u f t = record {
    given = [];
    bytes = [];
    reading = reading_none u;
    counted = refl;
    room = omega arith;
    space = sym (with_none f.space a);
    rest = refl;
    heard = heard_nothing H (Ok tt) t refl (Appends-nil (H.output t));
  }

  pub filling_then : {a u count left count' left' : ℕ} {old mid new : Forth D G} {t t' t'' : T} (at : ℕ) → at ≡ a + count → Filling H a u count left old mid t t' → Filling H at left count' left' mid new t' t'' → Filling H a u (count + count') left' old new t t''
  filling_then {a} {u} {count} {left} {count'} {left'} {old} {mid} {new} {t} {t'} {t''} at is h k = record {
    given = h.given ++ k.given;
    bytes = h.bytes ++ k.bytes;
    reading = reading_then h.reading k.reading;
    counted = (let e : count + count' ≡ length (h.bytes ++ k.bytes) = omega (arith, h.counted, k.counted, length-append h.bytes k.bytes) in e);
    room = omega (arith, h.room, k.room);
    space = k.space ∙ (λ t. with_bytes (h.space t) (is t) k.bytes) ∙ ap (λ n. with_bytes (with_bytes old.space a h.bytes) (a + n) k.bytes) h.counted ∙ with_then old.space h.bytes k.bytes a;
    rest = k.rest ∙ ap (λ (f : Forth D G). record f { space = new.space }) h.rest;
    heard = subst (λ n. Heard H (Ok tt) (reads (h.given ++ k.given) false n) t t'') (sym (length-append h.given k.given)) (heard_then H h.heard k.heard);
  }

  -- whether something was given so far
  pub record Begun (a u count left : ℕ) (any : Bool) (old new : Forth D G) (t t' : T) : Type 0 where
    pub filling : Filling H a u count left old new t t'
    pub some : any ≡ nat_lt 0 (length filling.given)
    pub first : any ≡ false → left ≡ u

  pub begun_none : (a u : ℕ) (f : Forth D G) (t : T) → Begun a u 0 u false f f t t
  unfolding filling_none
  begun_none a u f t = record { filling = filling_none a u f t; some = refl; first = λ h. refl }

  pub begun_then : {a u count left count' left' : ℕ} {some : Bool} {old mid new : Forth D G} {t t' t'' : T} (at : ℕ) → at ≡ a + count → Begun a u count left some old mid t t' → Stepped H at left count' left' mid new t' t'' → Begun a u (count + count') left' true old new t t''
  unfolding filling_then
  begun_then {a} {u} {count} {left} {count'} {left'} {some} {old} {mid} {new} {t} {t'} {t''} at is h k = record {
    filling = filling_then at is h.filling k.filling;
    some = sym (lt-ltb 0 (length (h.filling.given ++ k.filling.given)) (omega (arith, k.some, length-append h.filling.given k.filling.given)));
    first = λ no. absurd (let e : true ≡ false = no in cc);
  }

  pub begun_empty : {a u count left : ℕ} {any : Bool} {old new : Forth D G} {t t' : T} (h : Begun a u count left any old new t t') → any ≡ false → h.filling.bytes ≡ []
  begun_empty {a} {u} {count} {left} {any} {old} {new} {t} {t'} h is = none_of h.filling.bytes (omega (arith, h.first is, h.filling.counted, h.filling.room))

  pub begun_full : {a u count left : ℕ} {any : Bool} {old new : Forth D G} {t t' : T} (h : Begun a u count left any old new t t') → left ≡ 0 → (u ≡ 0) ⊎ (0 < length h.filling.given)
  begun_full {a} {u} {count} {left} {any} {old} {new} {t} {t'} h is = pick any refl
    where
      pick : (b : Bool) → any ≡ b → (u ≡ 0) ⊎ (0 < length h.filling.given)
      pick true same = inr (ltb-true 0 (length h.filling.given) (sym h.some ∙ same))
      pick false same = inl (sym (h.first same) ∙ is)

  pub rest_then : (old so new : Forth D G) → so ≡ record old { space = so.space } → new ≡ so → new ≡ record old { space = new.space }
  rest_then old so new h k = k ∙ h ∙ ap (λ s. record old { space = s }) (sym (ap (λ (f : Forth D G). f.space) k))

module _ {T : Type 0} (H : TerminalGhosts T) where
  -- the input is at its end
  pub met_then : (given : List ℕ) {t u v : T} → Heard H (Ok tt) (reads given false (length given)) t u → Heard H (Ok tt) (reads [] true 1) u v → Heard H (Ok tt) (reads given true (length given + 1)) t v
  met_then given {t} {u} {v} first second =
      subst (λ l. Heard H (Ok tt) (reads l true (length given + 1)) t v) (append-nil given) (heard_then H first second)

  pub broke_then : (given : List ℕ) {t u v : T} → Heard H (Ok tt) (reads given false (length given)) t u → Heard H (Err stop.Io) nothing u v → Heard H (Err stop.Io) (reads given false (length given)) t v
  broke_then given {t} {u} {v} first second =
      let n : length given + 0 ≡ length given = omega arith in
      subst (λ n. Heard H (Err stop.Io) (reads given false n) t v) n
      (subst (λ l. Heard H (Err stop.Io) (reads l false (length given + 0)) t v) (append-nil given) (heard_then H first second))

-- ---- a service that reads

module _ {D T : Type 0} (G : Ghosts D) (H : TerminalGhosts T) (only_now : OnlyNow G) where
  stands_for : (result : Result (Unit {0}) Stop) (forth : Forth D G) {levels : List Level} {x : World} → Represents forth levels x → RepresentsAfter result forth levels x
  stands_for (Ok v) forth {levels} {x} s = s
  stands_for (Err e) forth {levels} {x} s = s.rests

  pub ran_reading : {start : Run → Outcome World} (result : Result (Unit {0}) Stop) (given : List ℕ) (met : Bool) (calls : ℕ) (old new : Forth D G) {t t' : T} {levels : List Level} {x : World}
      → Represents old levels x → new ≡ record old { space = new.space } → Heard H result (reads given met calls) t t'
      → Comes start (reads given met calls) result (record (core old) { space = new.space }) x
      → Ran H start result old new t t' levels x
  ran_reading {start} result given met calls old new {t} {t'} {levels} {x} stands rest heard comes =
      subst (λ (n : Forth D G). Ran H start result old n t t' levels x) (sym rest)
      (record {
        deed = reads given met calls;
        world = x;
        stands = stands_for result (record old { space = new.space }) stands;
        steps = omega arith;
        comes = λ model. comes;
        heard = heard;
        cause = refl;
        keeps = λ model. maps_same G only_now _ x.maps (stands.rests.maps model);
      })

  -- it is over: something was read, or not
  pub ran_over : {start : Run → Outcome World} (some : Bool) (result : Result (Unit {0}) Stop) (given : List ℕ) (met : Bool) (calls a count : ℕ) (bytes : List ℕ) (old mid new : Forth D G) {t t' : T} {levels : List Level} {x : World}
      → Represents old levels x → mid ≡ record old { space = mid.space } → Heard H (Ok tt) (reads given met calls) t t'
      → mid.space ≡ with_bytes old.space a bytes → count ≡ length bytes → (some ≡ false → bytes ≡ [])
      → result ≡ (if some then Ok tt else Err (stop.Fault found.EndOfInput)) → new ≡ (if some then record mid { space = with_cell mid.space span_cell count } else mid)
      → ((r : Run) → Fits (reads given met calls) r → start (before (reads given met calls) r)
      ≡ needing some EndOfInput (core old) (with_run (after (reads given met calls) r) x) (λ c. Did (set_cell span_cell (length bytes) (store_input a bytes c)) (with_run (after (reads given met calls) r) x)))
      → Ran H start result old new t t' levels x
  ran_over {start} true result given met calls a count bytes old mid new {t} {t'} {levels} {x} stands rest heard stored_at counted none is after_it comes =
      subst (λ (o : Result (Unit {0}) Stop). Ran H start o old new t t' levels x) (sym is)
      (subst (λ (n : Forth D G). Ran H start (Ok tt) old n t t' levels x) (sym after_it)
      (ran_reading (Ok tt) given met calls old (record mid { space = with_cell mid.space span_cell count }) stands
      (ap (λ (f : Forth D G). record f { space = with_cell mid.space span_cell count }) rest) heard
      (λ r fits. comes r fits ∙ (λ t. Did (record (core old) { space = with_cell (sym stored_at t) span_cell (sym counted t) }) (with_run (after (reads given met calls) r) x)))))
  ran_over {start} false result given met calls a count bytes old mid new {t} {t'} {levels} {x} stands rest heard stored_at counted none is after_it comes =
      subst (λ (o : Result (Unit {0}) Stop). Ran H start o old new t t' levels x) (sym is)
      (subst (λ (n : Forth D G). Ran H start (Err (stop.Fault found.EndOfInput)) old n t t' levels x) (sym after_it)
      (ran_reading (Err (stop.Fault found.EndOfInput)) given met calls old mid stands rest
      (record { given = heard.given; at_end = heard.at_end; printed = heard.printed; calls = heard.calls })
      (record {
        core = core old;
        like = sym (with_none old.space a) ∙ ap (λ l. with_bytes old.space a l) (sym (none refl)) ∙ sym stored_at;
        ends = λ r fits. comes r fits;
      })))

  pub ran_byte : {start : Run → Outcome World} (given : List ℕ) (met : Bool) (calls : ℕ) (stack : List ℕ) (old new : Forth D G) {t t' : T} {levels : List Level} {x : World}
      → Represents old levels x → new ≡ record old { stack = stack } → Heard H (Ok tt) (reads given met calls) t t'
      → Comes start (reads given met calls) (Ok tt) (record (core old) { stack = stack }) x
      → Ran H start (Ok tt) old new t t' levels x
  ran_byte {start} given met calls stack old new {t} {t'} {levels} {x} stands left heard comes =
      subst (λ (n : Forth D G). Ran H start (Ok tt) old n t t' levels x) (sym left)
      (record {
        deed = reads given met calls;
        world = x;
        stands = stands;
        steps = omega arith;
        comes = λ model. comes;
        heard = heard;
        cause = refl;
        keeps = λ model. maps_same G only_now _ x.maps (stands.rests.maps model);
      })

-- ---- one byte

abbrev key_run : List ℕ → World → World
key_run [] x = with_input [] true x
key_run (b ∷ input) x = with_input input x.run.at_end x

-- the run after a byte, whatever the stack
after_key : (input : List ℕ) (c : Core) (x : World) → run_after (key_of input c x) ≡ (key_run input x).run
after_key [] c x = refl
after_key (b ∷ input) c x = pushed (nat_lt (length c.stack) 256)
  where
    pushed : (t : Bool) → run_after (needing t StackFull c (with_input input x.run.at_end x) (λ c. Did (record c { stack = b ∷ c.stack }) (with_input input x.run.at_end x))) ≡ (with_input input x.run.at_end x).run
    pushed true = refl
    pushed false = refl

abbrev pub key_of_run : Core → World → Run → Outcome World
key_of_run c x r = terminal_call r.terminal c (with_run r x) (λ x. key_of x.run.input c x)

pub key_well : (b : ℕ) (c : Core) (x : World) (r : Run) → length c.stack < 256
    → key_of_run c x (before (reads (b ∷ []) false 1) r) ≡ Did (record c { stack = b ∷ c.stack }) (with_run (after (reads (b ∷ []) false 1) r) x)
key_well b c x r room =
    call-well r.terminal c (with_run (record r { input = b ∷ r.input }) x) (λ x. key_of x.run.input c x)
    ∙ needing-yes (nat_lt (length c.stack) 256) StackFull c (with_run r x) (λ c0. Did (record c0 { stack = b ∷ c0.stack }) (with_run r x)) (lt-ltb _ _ room)
    ∙ ap (λ r. Did (record c { stack = b ∷ c.stack }) (with_run r x)) (after-reads (b ∷ []) false 1 r)

pub key_ends : (c : Core) (x : World) (r : Run) → r.input ≡ [] → key_of_run c x (before (reads [] true 1) r) ≡ Ends (Faults EndOfInput) c (with_run (after (reads [] true 1) r) x)
key_ends c x r none =
    call-well r.terminal c (with_run r x) (λ x. key_of x.run.input c x)
    ∙ ap (λ l. key_of l c (with_run r x)) none
    ∙ ap (λ l. Ends (Faults EndOfInput) c (with_run (record r { input = l; at_end = true }) x)) (sym none)
    ∙ ap (λ r. Ends (Faults EndOfInput) c (with_run r x)) (after-reads [] true 1 r)

pub key_broke : (c d : Core) (x : World) → c.space ≡ d.space → Broke (λ r. key_of_run c x r) (reads [] false 0) d x
key_broke c d x same = record {
  core = c;
  like = same;
  breaks = λ r fits none.
      record {
        run = record r { terminal = longer 0 r.terminal };
        ends = ap (λ t. terminal_call (longer 0 t) c (with_run (record r { terminal = longer 0 r.terminal }) x) (λ x. key_of x.run.input c x)) none;
        input = refl;
        output = sym (append-nil r.output);
        saves = sym (append-nil r.saves);
      };
  grows = λ r fits.
      let o : Outcome World = key_of_run c x (before (mended (reads [] false 0)) r) in
      let goes_on : run_after o ≡ (key_run r.input (with_run r x)).run = ap run_after (call-well r.terminal c (with_run r x) (λ x. key_of x.run.input c x)) ∙ after_key r.input c (with_run r x) in
      silent_grows [] false 0 r (run_after o) (subst (λ q. IsSilent r q) (sym goes_on) (key_silent r r.input));
  input = λ r fits never none. ap (λ o. o.input) (goes r never) ∙ ap (λ l. (key_run l (with_run (record r { terminal = longer 0 r.terminal }) x)).run.input) none;
  answers = λ r fits never none. subst (λ o. o.answers ≡ []) (sym (goes r never)) (kept r r.input none);
  failures = λ r fits never none. subst (λ o. o.failures ≡ r.failures + 0) (sym (goes r never)) (few r r.input);
}
  where
    goes : (r : Run) → r.terminal ≡ None → run_after (key_of_run c x (before (reads [] false 0) r)) ≡ (key_run r.input (with_run (record r { terminal = longer 0 r.terminal }) x)).run
    goes r never =
        ap (λ t. run_after (terminal_call (longer 0 t) c (with_run (record r { terminal = longer 0 r.terminal }) x) (λ x. key_of x.run.input c x))) never
        ∙ after_key r.input c (with_run (record r { terminal = longer 0 r.terminal }) x)

    key_silent : (r : Run) (input : List ℕ) → IsSilent r (key_run input (with_run r x)).run
    key_silent r [] = record { output = refl; saves = refl; wear = refl }
    key_silent r (b ∷ input) = record { output = refl; saves = refl; wear = refl }

    kept : (r : Run) (input : List ℕ) → r.answers ≡ [] → (key_run input (with_run (record r { terminal = longer 0 r.terminal }) x)).run.answers ≡ []
    kept r [] none = none
    kept r (b ∷ input) none = none

    few : (r : Run) (input : List ℕ) → (key_run input (with_run (record r { terminal = longer 0 r.terminal }) x)).run.failures ≡ r.failures + 0
    few r [] = omega arith
    few r (b ∷ input) = omega arith
