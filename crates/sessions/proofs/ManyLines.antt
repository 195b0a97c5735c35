-- Lines one after another make a session.
use Rattle.std.proofs.Common.{◌≡◌, ℕ, true, List, [], ◌∷◌, ◌++◌, Option, Some, refl, ap, sym, ◌∙◌, subst, append_assoc, append-nil}
use Rattle.std.specs.Io.KnownBytes.{Appends, Consumes, IsAtEnd}
use Rattle.std.proofs.KnownBytes.{Appends-nil, Appends-trans, Consumes-nil, Consumes-trans}
use Rattle.std.proofs.lemmas.Grind.{flat_map-append}
use Rattle.sector_disk.specs.declared.device.SectorDevice.{Ghosts}
use Rattle.block_words.specs.Words.{Save}
use Rattle.interpreter.specs.State.{Forth}
use Rattle.interpreter.specs.Lines.{Turn}
use Rattle.sessions.specs.declared.run_fault.RunFault.{RunFault}
use Rattle.sessions.specs.Sessions.{Session, Completes, BreaksOff, StopsAtFailure, Told, output_of, saves_of}
use Rattle.sessions.specs.Strict.{NoneFailed, is_failed}
use Rattle.sessions.specs.Calls.{TurnDone}
use Rattle.sessions.proofs.Known.{Consumes-none, empty-parts, none-left}
use Rattle.sessions.proofs.Rising.{told_then, told_once}

output_of-append : (ts us : List Turn) → output_of (ts ++ us) ≡ output_of ts ++ output_of us
output_of-append ts us = flat_map-append (λ t. t.reply) ts us

saves_of-append : (ts us : List Turn) → saves_of (ts ++ us) ≡ saves_of ts ++ saves_of us
saves_of-append ts us = flat_map-append (λ t. t.saves) ts us

-- The lines so far: whatever session follows goes on from them. Nothing follows, where the end was met.
pub record SoFar {D : Type 0} (G : Ghosts D) (opening now : Forth) (start left output written : Option (List ℕ)) (before after : D) (made : List Save) : Type 0 where
  pub taken : List ℕ
  pub turns : List Turn
  pub read : Consumes start left taken
  pub replies : Appends output written (output_of turns)
  pub saves : made ≡ saves_of turns
  pub told : Told G before turns after
  pub goes_on : (rest : List ℕ) (more : List Turn) (closing : Forth) → (left ≡ Some [] → rest ≡ []) → Session now rest more closing
      → Session opening (taken ++ rest) (turns ++ more) closing

pub so_far_none : {D : Type 0} (G : Ghosts D) (opening : Forth) (start output : Option (List ℕ)) (before : D) → (so_far : SoFar G opening opening start start output output before before []) × (so_far.turns ≡ [])
so_far_none G opening start output before = (
  record {
    taken = [];
    turns = [];
    read = Consumes-nil start;
    replies = Appends-nil output;
    saves = refl;
    told = refl;
    goes_on = λ rest more closing follows session. session;
  },
  refl,
)

module _ {D : Type 0} (G : Ghosts D) (opening now next : Forth) (start left left' output written written' : Option (List ℕ)) (before mid after : D) (made more : List Save)
    (so_far : SoFar G opening now start left output written before mid made) where
  -- where the end was met before, nothing more is taken
  none_taken : (bytes : List ℕ) → Consumes left left' bytes → left ≡ Some [] → (bytes ≡ []) × (left' ≡ Some [])
  none_taken bytes read none = Consumes-none left' bytes (rw (sym none) read)

  pub so_far_turn : (done : TurnDone G now next left left' written written' mid after more)
      → (longer : SoFar G opening next start left' output written' before after (made ++ more)) × (longer.turns ≡ so_far.turns ++ done.turn ∷ [])
  so_far_turn done = (
    record {
      taken = so_far.taken ++ done.taken;
      turns = so_far.turns ++ done.turn ∷ [];
      read = Consumes-trans start left left' so_far.taken done.taken so_far.read done.read;
      replies = subst (λ l. Appends output written' l) (ap (λ l. output_of so_far.turns ++ l) (sym (append-nil done.turn.reply)) ∙ sym (output_of-append so_far.turns (done.turn ∷ [])))
          (Appends-trans output written written' (output_of so_far.turns) done.turn.reply so_far.replies done.reply);
      saves = ap (λ l. l ++ more) so_far.saves ∙ ap (λ l. saves_of so_far.turns ++ l) (done.saves ∙ sym (append-nil done.turn.saves)) ∙ sym (saves_of-append so_far.turns (done.turn ∷ []));
      told = told_then G so_far.turns (done.turn ∷ []) before mid after so_far.told (told_once G done.turn mid after done.told);
      goes_on = λ rest turns closing follows session.
          let none : left ≡ Some [] → done.taken ++ rest ≡ [] = λ e.
          let ended = none_taken done.taken done.read e in
          ap (λ l. l ++ rest) ended.0 ∙ follows ended.1 in
          let whole : Session opening (so_far.taken ++ (done.taken ++ rest)) (so_far.turns ++ (done.turn ∷ turns)) closing =
          so_far.goes_on (done.taken ++ rest) (done.turn ∷ turns) closing none (rest, next, done.first rest follows, session) in
          subst (λ l. Session opening l ((so_far.turns ++ done.turn ∷ []) ++ turns) closing) (sym (append_assoc so_far.taken done.taken rest))
          (subst (λ ts. Session opening (so_far.taken ++ (done.taken ++ rest)) ts closing) (sym (append_assoc so_far.turns (done.turn ∷ []) turns)) whole);
    },
    refl,
  )

  pub so_far_cut : (fault : RunFault) (cut : BreaksOff G fault now next left left' written written' mid after more)
      → (longer : BreaksOff G fault opening next start left' output written' before after (made ++ more)) × (longer.turns ≡ so_far.turns ++ cut.turns)
  so_far_cut fault cut =
      let none : left ≡ Some [] → cut.front ++ cut.bytes ≡ [] = λ e. (none_taken (cut.front ++ cut.bytes) cut.read e).0 in (
        record {
          front = so_far.taken ++ cut.front;
          turns = so_far.turns ++ cut.turns;
          between = cut.between;
          answered = so_far.goes_on cut.front cut.turns cut.between (λ e. (empty-parts cut.front cut.bytes (none e)).0) cut.answered;
          bytes = cut.bytes;
          last = cut.last;
          over = cut.over;
          session =
              let whole : Session opening (so_far.taken ++ (cut.front ++ cut.bytes)) (so_far.turns ++ (cut.turns ++ cut.last)) cut.over =
              so_far.goes_on (cut.front ++ cut.bytes) (cut.turns ++ cut.last) cut.over none cut.session in
              subst (λ l. Session opening l ((so_far.turns ++ cut.turns) ++ cut.last) cut.over) (sym (append_assoc so_far.taken cut.front cut.bytes))
              (subst (λ ts. Session opening (so_far.taken ++ (cut.front ++ cut.bytes)) ts cut.over) (sym (append_assoc so_far.turns cut.turns cut.last)) whole);
          printed = cut.printed;
          begun = cut.begun;
          begins = cut.begins;
          saves = cut.saves;
          cut = cut.cut;
          read = subst (λ l. Consumes start left' l) (sym (append_assoc so_far.taken cut.front cut.bytes))
              (Consumes-trans start left left' so_far.taken (cut.front ++ cut.bytes) so_far.read cut.read);
          output = subst (λ l. Appends output written' l)
              (sym (append_assoc (output_of so_far.turns) (output_of cut.turns) cut.printed) ∙ ap (λ l. l ++ cut.printed) (sym (output_of-append so_far.turns cut.turns)))
              (Appends-trans output written written' (output_of so_far.turns) (output_of cut.turns ++ cut.printed) so_far.replies cut.output);
          all_saves = ap (λ l. l ++ more) so_far.saves ∙ ap (λ l. saves_of so_far.turns ++ l) cut.all_saves
              ∙ sym (append_assoc (saves_of so_far.turns) (saves_of cut.turns) cut.begun) ∙ ap (λ l. l ++ cut.begun) (sym (saves_of-append so_far.turns cut.turns));
          told = subst (λ ts. Told G before ts after) (sym (append_assoc so_far.turns cut.turns cut.last))
              (told_then G so_far.turns (cut.turns ++ cut.last) before mid after so_far.told cut.told);
        },
        refl,
      )

pub so_far_end : {D : Type 0} (G : Ghosts D) (opening now : Forth) (start left left' output written written' : Option (List ℕ)) (before after : D) (made : List Save)
    → (so_far : SoFar G opening now start left output written before after made)
    → Consumes left left' [] → left' ≡ Some [] → written' ≡ written
    → (whole : Completes G opening now start left' output written' before after made) × (whole.turns ≡ so_far.turns)
so_far_end G opening now start left left' output written written' before after made so_far none end silent = (
  record {
    input = so_far.taken;
    turns = so_far.turns;
    session =
        let whole : Session opening (so_far.taken ++ []) (so_far.turns ++ []) now = so_far.goes_on [] [] now (λ _. refl) (refl, refl) in
        subst (λ l. Session opening l so_far.turns now) (append-nil so_far.taken)
        (subst (λ ts. Session opening (so_far.taken ++ []) ts now) (append-nil so_far.turns) whole);
    read = subst (λ l. Consumes start left' l) (append-nil so_far.taken) (Consumes-trans start left left' so_far.taken [] so_far.read none);
    end = subst (λ l. IsAtEnd l) (sym end) refl;
    output = subst (λ o. Appends output o (output_of so_far.turns)) (sym silent) so_far.replies;
    saves = so_far.saves;
    told = so_far.told;
  },
  refl,
)

pub so_far_stop : {D : Type 0} (G : Ghosts D) (opening now : Forth) (start left output written : Option (List ℕ)) (before after : D) (made : List Save)
    → (so_far : SoFar G opening now start left output written before after made) (turns : List Turn) (last : Turn)
    → so_far.turns ≡ turns ++ last ∷ [] → NoneFailed turns → is_failed last ≡ true
    → (stop : StopsAtFailure G opening now start left output written before after made) × (stop.turns ++ stop.last ∷ [] ≡ so_far.turns)
so_far_stop G opening now start left output written before after made so_far turns last is unfailed fails = (
  record {
    input = so_far.taken;
    turns = turns;
    last = last;
    unfailed = unfailed;
    fails = fails;
    session =
        let whole : Session opening (so_far.taken ++ []) (so_far.turns ++ []) now = so_far.goes_on [] [] now (λ _. refl) (refl, refl) in
        subst (λ ts. Session opening so_far.taken ts now) is
        (subst (λ l. Session opening l so_far.turns now) (append-nil so_far.taken)
        (subst (λ ts. Session opening (so_far.taken ++ []) ts now) (append-nil so_far.turns) whole));
    goes_on = λ rest more end left_is session.
        subst (λ ts. Session opening (so_far.taken ++ rest) (ts ++ more) end) is (so_far.goes_on rest more end (none-left left rest left_is) session);
    read = so_far.read;
    output = subst (λ ts. Appends output written (output_of ts)) is so_far.replies;
    saves = so_far.saves ∙ ap saves_of is;
    told = subst (λ ts. Told G before ts after) is so_far.told;
  },
  sym is,
)
