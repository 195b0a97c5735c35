-- One line of a run: answered whole, or cut short.
use Rattle.std.proofs.Common.{◌≡◌, ◌≢◌, ℕ, ◌<◌, inr, List, [], ◌∷◌, ◌++◌, Option, Some, refl, ap, sym, ◌∙◌, subst, append-nil, arith}
use Rattle.std.specs.List.{AllByRecursion}
use Rattle.std.specs.Io.BufRead.{strip_last}
use Rattle.std.specs.Io.KnownBytes.{Consumes, Appends, Keeps}
use Rattle.std.proofs.KnownBytes.{Appends-nil}
use Rattle.sector_disk.specs.Counting.{count_up}
use Rattle.sector_disk.specs.Moments.{Elapses}
use Rattle.sector_disk.proofs.Moments.{elapses_refl}
use Rattle.sector_disk.specs.declared.device.SectorDevice.{Ghosts}
use Rattle.block_words.specs.Words.{Save}
use Rattle.interpreter.specs.State.{Forth}
use Rattle.interpreter.specs.declared.place.LeftAt.{LeftAt}
use Rattle.interpreter.specs.Lines.{LineEnd, Interpreting, Compiling, Quit, Io, Fails, Turn, Line, Broken, line}
use Rattle.interpreter.specs.Promise.{HasRisenBy, Replied, Stopped, Answers, OnIo}
use Rattle.interpreter.specs.Law.{HasTurn, LongLinesAreAlike}
use Rattle.sessions.specs.declared.run_fault.RunFault.{RunFault}
use Rattle.sessions.specs.declared.run_fault.RunFault.TheVariants.{Read, Write}
use Rattle.sessions.specs.Cut.{IsWhole, line_text}
use Rattle.sessions.specs.Calls.{ReadsPart, TurnDone}
use Rattle.sessions.specs.Sessions.{FirstTurn, BreaksOff, InReading, InLine, InFlushing}
use Rattle.sessions.proofs.Known.{Appends-after}
use Rattle.sessions.proofs.Rising.{told_once}
use Rattle.sessions.proofs.Kept.{Kept, TakenLine, taken_line, first_turn, kept_alike, line_alike, broken_alike}

-- ---- how the line ended

module _ {D : Type 0} (G : Ghosts D) (opening : Forth) (bytes : List ℕ) (closing : Forth) (input left output printed : Option (List ℕ)) (calls calls' : ℕ) (before after : D) (made : List Save) (f g : ℕ) where
  -- the terminal failed in it
  pub was_stopped : (ending : LineEnd) (place : Option LeftAt) (undone : List ℕ) → Answers G ending place undone opening bytes closing input left output printed calls calls' before after made
      → OnIo ending (g ≡ count_up f) (g ≡ f) → f ≡ 0 → 0 < g → Stopped G opening bytes closing input left output printed calls calls' before after made
  was_stopped Io place undone h k zero some = h
  was_stopped Interpreting place undone h k zero some = absurd (omega (arith, k, zero, some))
  was_stopped Compiling place undone h k zero some = absurd (omega (arith, k, zero, some))
  was_stopped Quit place undone h k zero some = absurd (omega (arith, k, zero, some))
  was_stopped (Fails e) place undone h k zero some = absurd (omega (arith, k, zero, some))

  -- the terminal did not fail
  pub was_replied : (ending : LineEnd) (place : Option LeftAt) (undone : List ℕ) → Answers G ending place undone opening bytes closing input left output printed calls calls' before after made
      → OnIo ending (g ≡ count_up f) (g ≡ f) → f ≡ 0 → g ≡ 0 → Replied G ending place undone opening bytes closing input left output printed before after made
  was_replied Io place undone h k zero none = absurd (let e : 1 ≡ 0 = sym (k ∙ ap count_up zero) ∙ none in omega (arith, e))
  was_replied Interpreting place undone h k zero none = h
  was_replied Compiling place undone h k zero none = h
  was_replied Quit place undone h k zero none = h
  was_replied (Fails e) place undone h k zero none = h

-- so it ended otherwise
pub answered : {f g : ℕ} (ending : LineEnd) → OnIo ending (g ≡ count_up f) (g ≡ f) → f ≡ 0 → g ≡ 0 → ending ≢ Io
answered Io k zero none is = (let e : 1 ≡ 0 = sym (k ∙ ap count_up zero) ∙ none in omega (arith, e))
answered Interpreting k zero none is = cc
answered Compiling k zero none is = cc
answered Quit k zero none is = cc
answered (Fails e) k zero none is = cc

-- ---- the line was read

module _ {D : Type 0} (G : Ghosts D) (long_lines : LongLinesAreAlike) (opening : Forth) (a b c before during written : Option (List ℕ)) (items text : List ℕ) (kept : Kept a b items) (is : text ≡ strip_last 13 items)
    (same : during ≡ before) (f g : D) (made : List Save) (closing : Forth) (time : Elapses G.time G.left_since f g) where
  abbrev bytes : List ℕ
  bytes = kept.0

  whole : (run : _) → line opening text run ≡ line opening (line_text bytes) run
  whole run = ap (λ t. line opening t run) (is ∙ ap (strip_last 13) kept.2) ∙ kept_alike long_lines opening bytes run

  taken_by : (given : List ℕ) → Consumes b c given → TakenLine given bytes a c
  taken_by given gave = taken_line given a b c bytes kept.1 gave

  -- the first turn of just the bytes read, and how its terminal failed
  abbrev StoppedTurn : Turn → (shown : List ℕ) → Forth → List ℕ → Type 0
  StoppedTurn turn shown over l = (first : FirstTurn opening l turn [] over) × Broken opening (line_text first.bytes) turn.given shown first.line.answers made closing

  pub line_stopped : {calls calls' : ℕ} (fault : RunFault) → Stopped G opening text closing b c during written calls calls' f g made
      → (cut : BreaksOff G fault opening closing a c before written f g made) × (cut.turns ≡ [])
  line_stopped fault s =
      let t = taken_by s.turn.given s.given in
      let both : StoppedTurn s.turn s.shown s.over t.taken =
      subst (λ l. StoppedTurn s.turn s.shown s.over l) (append-nil t.taken) (
        first_turn opening s.over s.turn bytes a c t [] (λ e. refl) (λ e. refl) (line_alike opening text (line_text bytes) s.turn s.over whole s.line),
        broken_alike opening text (line_text bytes) s.turn.given s.shown s.line.answers made closing whole s.broken,
      ) in (
        record {
          front = [];
          turns = [];
          between = opening;
          answered = (refl, refl);
          bytes = t.taken;
          last = s.turn ∷ [];
          over = s.over;
          session = ([], s.over, both.0, (refl, refl));
          printed = s.shown;
          begun = made;
          begins = (s.begins.0, append-nil s.turn.reply ∙ s.begins.1);
          saves = (s.saves.0, append-nil s.turn.saves ∙ s.saves.1);
          cut = InLine (record { turn = s.turn; over = s.over; whole = t.whole; only = refl; first = both.0; broken = both.1 });
          read = t.read;
          output = subst (λ o. Appends o written s.shown) same s.reply;
          all_saves = refl;
          told = told_once G s.turn f g (record { time = time; cause = s.cause; wears = s.wears });
        },
        refl,
      )

  module _ (ending : LineEnd) (place : Option LeftAt) (undone : List ℕ) (r : Replied G ending place undone opening text closing b c during written f g made) (d flushed : Option (List ℕ)) (left : d ≡ c) (kept_on : Keeps written flushed) where
    abbrev taken_r : TakenLine r.turn.given bytes a c
    taken_r = taken_by r.turn.given r.given

    whole_line : Line opening (line_text bytes) r.turn closing
    whole_line = line_alike opening text (line_text bytes) r.turn closing whole r.line

    shown : Appends before flushed r.turn.reply
    shown = Appends-after before during written flushed r.turn.reply same r.reply kept_on

    pub line_replied : (done : TurnDone G opening closing a d before flushed f g made) × (done.turn ≡ r.turn)
    line_replied = (
      record {
        turn = r.turn;
        taken = taken_r.taken;
        read = subst (λ l. Consumes a l taken_r.taken) (sym left) taken_r.read;
        reply = shown;
        saves = r.saves;
        told = record { time = time; cause = r.cause; wears = r.wears };
        first = λ rest follows.
            let ends : c ≡ Some [] → rest ≡ [] = λ e. follows (left ∙ e) in
            first_turn opening closing r.turn bytes a c taken_r rest ends (λ ended. ends (r.at_end ended)) whole_line;
      },
      refl,
    )

    pub line_unflushed : (cut : BreaksOff G Write opening closing a d before flushed f g made) × (cut.turns ≡ [])
    line_unflushed =
        let first : FirstTurn opening taken_r.taken r.turn [] closing =
        subst (λ l. FirstTurn opening l r.turn [] closing) (append-nil taken_r.taken) (first_turn opening closing r.turn bytes a c taken_r [] (λ e. refl) (λ e. refl) whole_line) in (
          record {
            front = [];
            turns = [];
            between = opening;
            answered = (refl, refl);
            bytes = taken_r.taken;
            last = r.turn ∷ [];
            over = closing;
            session = ([], closing, first, (refl, refl));
            printed = r.turn.reply;
            begun = made;
            begins = ([], refl);
            saves = ([], append-nil r.turn.saves ∙ sym r.saves ∙ sym (append-nil made));
            cut = InFlushing (record { side = refl; whole = subst (λ l. IsWhole taken_r.taken l) (sym left) taken_r.whole; one = refl; printed_all = sym (append-nil r.turn.reply); saved_all = r.saves ∙ sym (append-nil r.turn.saves); after = refl });
            read = subst (λ l. Consumes a l taken_r.taken) (sym left) taken_r.read;
            output = shown;
            all_saves = refl;
            told = told_once G r.turn f g (record { time = time; cause = r.cause; wears = r.wears });
          },
          refl,
        )

-- ---- the reader failed in the line

module _ {D : Type 0} (G : Ghosts D) (total : HasTurn) (opening : Forth) (f : D) (a b before after : Option (List ℕ)) (same : after ≡ before) where
  silent : Appends before after []
  silent = subst (λ o. Appends before o []) (sym same) (Appends-nil before)

  unread_bytes : (bytes : List ℕ) → AllByRecursion (λ b. b ≢ 10) bytes → Consumes a b bytes
      → (cut : BreaksOff G Read opening opening a b before after f f []) × (cut.turns ≡ [])
  unread_bytes [] no_feed read = (
    record {
      front = [];
      turns = [];
      between = opening;
      answered = (refl, refl);
      bytes = [];
      last = [];
      over = opening;
      session = (refl, refl);
      printed = [];
      begun = [];
      begins = ([], refl);
      saves = ([], refl);
      cut = InReading (record { side = refl; no_feed = no_feed; printed_none = refl; saved_none = refl; same = refl });
      read = read;
      output = silent;
      all_saves = refl;
      told = refl;
    },
    refl,
  )
  unread_bytes (x ∷ xs) no_feed read =
      let (turn, over, line, none, calm) = total opening (line_text (x ∷ xs)) in (
        record {
          front = [];
          turns = [];
          between = opening;
          answered = (refl, refl);
          bytes = x ∷ xs;
          last = turn ∷ [];
          over = over;
          session = (
            [],
            over,
            record {
              bytes = x ∷ xs;
              rest = [];
              first = record { no_feed = no_feed; cut = inr (refl, refl, omega arith) };
              taken = sym (ap (λ l. l ++ []) none);
              at_end = λ _. refl;
              line = line;
            },
            (refl, refl),
          );
          printed = [];
          begun = [];
          begins = (turn.reply ++ [], refl);
          saves = (turn.saves ++ [], refl);
          cut = InReading (record { side = refl; no_feed = no_feed; printed_none = refl; saved_none = refl; same = refl });
          read = read;
          output = silent;
          all_saves = refl;
          told = told_once G turn f f
              (record {
                time = elapses_refl G.time G.left_since f;
                cause = subst (λ n. HasRisenBy n (G.failures f) (G.failures f)) (sym calm) refl;
                wears = record { sectors = refl; begins = record { few_writes = omega arith; few_syncs = omega arith }; reads = omega arith };
              });
        },
        refl,
      )

  pub line_unread : (bytes : List ℕ) → ReadsPart a b bytes → (cut : BreaksOff G Read opening opening a b before after f f []) × (cut.turns ≡ [])
  line_unread bytes part = unread_bytes bytes part.no_feed part.read
