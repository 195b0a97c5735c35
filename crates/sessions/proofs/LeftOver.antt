-- What a run that broke off left of its input, told of the reader.
use Rattle.std.proofs.Common.{◌≡◌, ℕ, ◌≤◌, ◌-◌, ◌^◌, inr, Bool, true, false, List, [], ◌∷◌, ◌++◌, Option, Some, None, subst, arith}
use Rattle.sector_disk.specs.declared.device.SectorDevice.{Ghosts}
use Rattle.block_words.specs.Words.{Save}
use Rattle.interpreter.specs.State.{Forth}
use Rattle.interpreter.specs.Lines.{Turn}
use Rattle.sessions.specs.declared.run_fault.RunFault.{RunFault}
use Rattle.sessions.specs.Sessions.{BreaksOff, Completes, CutShort, InReading, InLine, InFlushing, StopsAtFailure}
use Rattle.sessions.specs.Streams.{left_of, bound}

-- where the reader's bytes are not known, nothing is said of what it left
cut_unknown : (fault : RunFault) (before : Forth) (bytes : List ℕ) (turns : List Turn) (over : Forth) (printed : List ℕ) (made : List Save) (closing : Forth)
    → CutShort fault before bytes (Some []) turns over printed made closing → CutShort fault before bytes None turns over printed made closing
cut_unknown fault before bytes turns over printed made closing (InReading c) = InReading c
cut_unknown fault before bytes turns over printed made closing (InLine c) =
    InLine (record { turn = c.turn; over = c.over; whole = inr tt; only = c.only; first = c.first; broken = c.broken })
cut_unknown fault before bytes turns over printed made closing (InFlushing c) =
    InFlushing (record { side = c.side; whole = inr tt; one = c.one; printed_all = c.printed_all; saved_all = c.saved_all; after = c.after })

module _ {D : Type 0} (G : Ghosts D) (fault : RunFault) (opening closing : Forth) (written written' : Option (List ℕ)) (before after : D) (give : ℕ) (made : List Save) (P : List Turn → Type 0) where
  abbrev Breaks : (left left' : Option (List ℕ)) → Type 0
  Breaks left left' = (cut : BreaksOff G fault opening closing left left' written written' before after made) × P cut.turns

  broken_unknown : Breaks None (Some []) → Breaks None None
  broken_unknown b = (
    record {
      front = b.0.front;
      turns = b.0.turns;
      between = b.0.between;
      answered = b.0.answered;
      bytes = b.0.bytes;
      last = b.0.last;
      over = b.0.over;
      session = b.0.session;
      printed = b.0.printed;
      begun = b.0.begun;
      begins = b.0.begins;
      saves = b.0.saves;
      cut = cut_unknown fault b.0.between b.0.bytes b.0.last b.0.over b.0.printed b.0.begun closing b.0.cut;
      read = tt;
      output = b.0.output;
      all_saves = b.0.all_saves;
      told = b.0.told;
    },
    b.1,
  )

  -- no known byte is left behind the end of the input
  from_start : (start : Option (List ℕ)) (ended : Bool) (remaining : Option (List ℕ))
      → bound ended remaining give ≤ bound false start (2 ^ 64 - 1) → Breaks start (left_of ended remaining) → Breaks start remaining
  from_start start false remaining h b = b
  from_start start true (Some []) h b = b
  from_start None true (Some (x ∷ xs)) h b = absurd (omega (arith, h))
  from_start (Some bytes) true (Some (x ∷ xs)) h b = absurd (omega (arith, h))
  from_start (Some bytes) true None h b = absurd (omega (arith, h))
  from_start None true None h b = broken_unknown b

  pub breaks_left : (begun : Bool) (most between : ℕ) (start : Option (List ℕ)) (ended : Bool) (remaining : Option (List ℕ))
      → begun ≡ false → most ≡ 2 ^ 64 - 1 → between ≤ bound begun start most → bound ended remaining give ≤ between
      → Breaks (left_of begun start) (left_of ended remaining) → Breaks start remaining
  breaks_left begun most between start ended remaining new all h k b =
      let new_bound : between ≤ bound false start (2 ^ 64 - 1) =
      subst (λ e. between ≤ bound e start (2 ^ 64 - 1)) new (subst (λ m. between ≤ bound begun start m) all h) in
      from_start start ended remaining (omega (arith, new_bound, k)) (subst (λ e. Breaks (left_of e start) (left_of ended remaining)) new b)

-- ---- the same of a run that came to its input's end

module _ {D : Type 0} (G : Ghosts D) (opening closing : Forth) (written written' : Option (List ℕ)) (before after : D) (give : ℕ) (made : List Save) (P : List Turn → Type 0) where
  abbrev Whole : (left left' : Option (List ℕ)) → Type 0
  Whole left left' = (whole : Completes G opening closing left left' written written' before after made) × P whole.turns

  whole_unknown : Whole None (Some []) → Whole None None
  whole_unknown w = (
    record {
      input = w.0.input;
      turns = w.0.turns;
      session = w.0.session;
      read = tt;
      end = tt;
      output = w.0.output;
      saves = w.0.saves;
      told = w.0.told;
    },
    w.1,
  )

  whole_from_start : (start : Option (List ℕ)) (ended : Bool) (remaining : Option (List ℕ))
      → bound ended remaining give ≤ bound false start (2 ^ 64 - 1) → Whole start (left_of ended remaining) → Whole start remaining
  whole_from_start start false remaining h w = w
  whole_from_start start true (Some []) h w = w
  whole_from_start None true (Some (x ∷ xs)) h w = absurd (omega (arith, h))
  whole_from_start (Some bytes) true (Some (x ∷ xs)) h w = absurd (omega (arith, h))
  whole_from_start (Some bytes) true None h w = absurd (omega (arith, h))
  whole_from_start None true None h w = whole_unknown w

  pub whole_left : (begun : Bool) (most between : ℕ) (start : Option (List ℕ)) (ended : Bool) (remaining : Option (List ℕ))
      → begun ≡ false → most ≡ 2 ^ 64 - 1 → between ≤ bound begun start most → bound ended remaining give ≤ between
      → Whole (left_of begun start) (left_of ended remaining) → Whole start remaining
  whole_left begun most between start ended remaining new all h k w =
      let new_bound : between ≤ bound false start (2 ^ 64 - 1) =
      subst (λ e. between ≤ bound e start (2 ^ 64 - 1)) new (subst (λ m. between ≤ bound begun start m) all h) in
      whole_from_start start ended remaining (omega (arith, new_bound, k)) (subst (λ e. Whole (left_of e start) (left_of ended remaining)) new w)

-- ---- the same of a run that ended with the first fault

module _ {D : Type 0} (G : Ghosts D) (opening closing : Forth) (written written' : Option (List ℕ)) (before after : D) (give : ℕ) (made : List Save) (P : List Turn → Type 0) where
  abbrev Stopped : (left left' : Option (List ℕ)) → Type 0
  Stopped left left' = (stop : StopsAtFailure G opening closing left left' written written' before after made) × P (stop.turns ++ stop.last ∷ [])

  stopped_unknown : Stopped None (Some []) → Stopped None None
  stopped_unknown s = (
    record {
      input = s.0.input;
      turns = s.0.turns;
      last = s.0.last;
      unfailed = s.0.unfailed;
      fails = s.0.fails;
      session = s.0.session;
      goes_on = λ rest more end left_is session. absurd (cc);
      read = tt;
      output = s.0.output;
      saves = s.0.saves;
      told = s.0.told;
    },
    s.1,
  )

  stopped_from_start : (start : Option (List ℕ)) (ended : Bool) (remaining : Option (List ℕ))
      → bound ended remaining give ≤ bound false start (2 ^ 64 - 1) → Stopped start (left_of ended remaining) → Stopped start remaining
  stopped_from_start start false remaining h s = s
  stopped_from_start start true (Some []) h s = s
  stopped_from_start None true (Some (x ∷ xs)) h s = absurd (omega (arith, h))
  stopped_from_start (Some bytes) true (Some (x ∷ xs)) h s = absurd (omega (arith, h))
  stopped_from_start (Some bytes) true None h s = absurd (omega (arith, h))
  stopped_from_start None true None h s = stopped_unknown s

  pub stopped_left : (begun : Bool) (most between : ℕ) (start : Option (List ℕ)) (ended : Bool) (remaining : Option (List ℕ))
      → begun ≡ false → most ≡ 2 ^ 64 - 1 → between ≤ bound begun start most → bound ended remaining give ≤ between
      → Stopped (left_of begun start) (left_of ended remaining) → Stopped start remaining
  stopped_left begun most between start ended remaining new all h k s =
      let new_bound : between ≤ bound false start (2 ^ 64 - 1) =
      subst (λ e. between ≤ bound e start (2 ^ 64 - 1)) new (subst (λ m. between ≤ bound begun start m) all h) in
      stopped_from_start start ended remaining (omega (arith, new_bound, k)) (subst (λ e. Stopped (left_of e start) (left_of ended remaining)) new s)
