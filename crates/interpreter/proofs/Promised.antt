-- A line, as its turn.
use Rattle.std.proofs.Common.{◌≡◌, ℕ, ◌+◌, Bool, true, false, IsTrue, List, [], ◌++◌, Option, Some, None, Ok, Err, refl, sym, ap, subst, ◌∙◌, append_assoc, arith}
use Rattle.std.specs.Prelude.{◌||◌}
use Rattle.std.proofs.lemmas.List.{append-nil}
use Rattle.sector_disk.specs.declared.device.SectorDevice.{Ghosts}
use Rattle.block_words.specs.Words.{Save, no_wear, add_wear}
use Rattle.interpreter.proofs.Wearing.{wears_within}
use Rattle.block_words.specs.Calls.{WearsAtMost}
use Rattle.block_words.proofs.Worn.{none_first}
use Rattle.cell_machine.specs.Frames.{Core}
use Rattle.interpreter.specs.declared.terminal.Terminal.{Ghosts as TerminalGhosts}
use Rattle.interpreter.specs.declared.fault.Stop.TheVariants as stop
use Rattle.interpreter.specs.declared.lines.LineEnd.{LineEnd}
use Rattle.interpreter.specs.declared.lines.LineEnd.TheVariants as end
use Rattle.interpreter.specs.declared.forth.Forth.{Forth}
use Rattle.interpreter.specs.declared.place.LeftAt.{LeftAt}
use Rattle.interpreter.specs.Deeds.{Deed, before, after, mended}
use Rattle.interpreter.specs.Law.{Grows, IsWithin}
use Rattle.interpreter.specs.Lines as lines
use Rattle.interpreter.specs.Lines.{Ended, Turn, Line, Broken, line, line_on, after_line, between_lines, settled_by, undone_by}
use Rattle.interpreter.specs.Promise.{HasRisenBy, Replied, Stopped, Answers, Keeps}
use Rattle.interpreter.specs.State as state
use Rattle.interpreter.specs.State.{World, Run, new_run, idle, with_run}
use Rattle.interpreter.specs.Representation.{device}
use Rattle.interpreter.specs.ServiceContract.{Heard}
use Rattle.interpreter.specs.Terminal.{Begins}
use Rattle.interpreter.specs.Told.{loads_told}
use Rattle.interpreter.proofs.LineContract.{begins_then}
use Rattle.interpreter.specs.LineContract.{line_end, heard_of, LineLeft, LineBroke, LineBreaksOff, LineComes, RanLine, IsSystem}
use Rattle.journal.specs.Suits.{suits}

or-none : (b : Bool) → (b || false) ≡ b
or-none true = refl
or-none false = refl

-- the run of a whole line, with nothing left over
alone : (d : Deed) (t : Option ℕ) → record idle { answers = d.answers ++ []; input = d.given ++ []; terminal = t } ≡ new_run d.given d.answers t
alone d t = ap (λ l. record idle { answers = l; input = d.given ++ []; terminal = t }) (append-nil d.answers) ∙ ap (λ l. record idle { answers = d.answers; input = l; terminal = t }) (append-nil d.given)

-- the system that it leaves
abbrev pub over : state.Forth → Core → World → state.Forth
over opening c x = record opening { core = record c { steps = 0 }; world = with_run idle x }

-- and once that is settled
abbrev pub closing : state.Forth → LineEnd → Option LeftAt → Core → World → state.Forth
closing opening e place c x = settled_by (line_end e) place (over opening c x)

module _ {D T : Type 0} (G : Ghosts D) (H : TerminalGhosts T) (opening : state.Forth) (bytes : List ℕ) (d : Deed) (place : Option LeftAt) (c : Core) (x : World) (t u : T) (old new : D)
    (cause : HasRisenBy d.failures (G.failures old) (G.failures new)) (wears : WearsAtMost G old new d.wear) where
  none_before : d.failures ≡ 0 + d.failures
  none_before = omega arith

  abbrev whole : Ended
  whole = line_on opening bytes d.given d.answers

  pub replied : (e : LineEnd) → LineLeft (λ r. line opening bytes r) d e place c x → Heard H (Ok tt) d t u → Replied G (line_end e) place (undone_by (line_end e) place (over opening c x)) opening bytes (closing opening e place c x) (H.input t) (H.input u) (H.output t) (H.output u) old new d.saves
  replied e l heard =
      let run : whole ≡ record { ending = line_end e; place = place; core = c; world = with_run (after d idle) x } = ap (λ r. line opening bytes r) (sym (alone d None)) ∙ l.ends idle (λ h. refl) in
      record {
        turn = record { given = d.given; at_end = d.met || false; reply = d.printed; ending = line_end e; place = place; loads = loads_told place x.loads; undone = undone_by (line_end e) place (over opening c x); saves = d.saves; failures = 0 + d.failures; wear = add_wear no_wear d.wear };
        line = record {
          answers = d.answers;
          ends = ap (λ e. e.ending) run;
          placed = ap (λ e. e.place) run;
          led = ap (λ e. loads_told e.place e.world.loads) run;
          undone = ap (λ e. undone_by e.ending e.place (after_line opening e)) run;
          leaves = ap (λ e. between_lines opening e) run;
          taken = ap (λ e. e.world.run.input) run;
          met = ap (λ e. e.world.run.at_end) run;
          printed = ap (λ e. e.world.run.output) run;
          saved = ap (λ e. e.world.run.saves) run;
          failed = ap (λ e. e.world.run.failures) run;
          worn = ap (λ e. e.world.run.wear) run;
        };
        ends = refl;
        placed = refl;
        taken_back = refl;
        given = heard.given;
        at_end = λ h. heard.at_end (sym (or-none d.met) ∙ h);
        reply = heard.printed;
        saves = refl;
        cause = subst (λ n. HasRisenBy n (G.failures old) (G.failures new)) none_before cause;
        wears = subst (λ w. WearsAtMost G old new w) (sym (none_first d.wear)) wears;
      }

  pub cut_off : LineBroke (λ r. line opening bytes r) d c x → Heard H (Err stop.Io) d t u → Stopped G opening bytes (closing opening end.Io place c x) (H.input t) (H.input u) (H.output t) (H.output u) (H.calls t) (H.calls u) old new d.saves
  cut_off l heard =
      let run : line opening bytes (before d idle) ≡ whole = ap (λ r. line opening bytes r) (alone d None) in
      let m : Deed = mended d in
      let grows : Grows (after m idle) whole.world.run = subst (λ o. Grows (after m idle) o.world.run) run (l.grows idle (λ h. refl)) in
      let none : whole.world.run.input ≡ [] = subst (λ o. o.world.run.input ≡ []) run (l.input idle (λ h. refl) refl refl) in
      let told : whole.world.run.failures ≡ 0 + d.failures = subst (λ o. o.world.run.failures ≡ 0 + d.failures) run (l.failures idle (λ h. refl) refl refl) in
      let ends : (d.calls + 0) ≡ d.calls = omega arith in
      let b : LineBreaksOff (λ r. line opening bytes r) d c x (record idle { terminal = Some 0 }) = l.breaks (record idle { terminal = Some 0 }) (λ h. refl) refl in
      let broke : line opening bytes (new_run d.given d.answers (Some d.calls)) ≡ record { ending = lines.LineEnd.Io; place = None; core = c; world = with_run b.run x } =
      ap (λ n. line opening bytes (new_run d.given d.answers (Some n))) (sym ends) ∙ ap (λ r. line opening bytes r) (sym (alone d (Some (d.calls + 0)))) ∙ b.ends in
      let one_more : (m.calls + 0) ≡ d.calls + 1 = omega arith in
      let longer_run : line opening bytes (before m (record idle { terminal = Some 0 })) ≡ line opening bytes (new_run d.given d.answers (Some (d.calls + 1))) =
      ap (λ r. line opening bytes r) (alone d (Some (m.calls + 0))) ∙ ap (λ n. line opening bytes (new_run d.given d.answers (Some n))) one_more in
      let more : Begins (d.printed ++ d.tried) (line opening bytes (new_run d.given d.answers (Some (d.calls + 1)))).world.run.output =
      subst (λ o. Begins (d.printed ++ d.tried) o.world.run.output) longer_run (l.grows (record idle { terminal = Some 0 }) (λ h. refl)).output in
      let part : List ℕ = heard.printed.0 in
      let shown : List ℕ = d.printed ++ part in
      let front : Begins shown (d.printed ++ d.tried) = (heard.printed.1.0, ap (λ l. d.printed ++ l) heard.printed.1.1 ∙ sym (append_assoc d.printed part heard.printed.1.0)) in
      record {
        turn = record { given = d.given; at_end = whole.world.run.at_end; reply = whole.world.run.output; ending = whole.ending; place = whole.place; loads = loads_told whole.place whole.world.loads; undone = undone_by whole.ending whole.place (after_line opening whole); saves = whole.world.run.saves; failures = whole.world.run.failures; wear = whole.world.run.wear };
        over = between_lines opening whole;
        line = record { answers = d.answers; ends = refl; placed = refl; led = refl; undone = refl; leaves = refl; taken = none; met = refl; printed = refl; saved = refl; failed = refl; worn = refl };
        given = heard.given;
        shown = shown;
        reply = heard.printed.2;
        begins = begins_then shown (d.printed ++ d.tried) whole.world.run.output front grows.output;
        saves = grows.saves;
        cause = subst (λ n. HasRisenBy n (G.failures old) (G.failures new)) (none_before ∙ sym told) cause;
        wears = wears_within G old new d.wear whole.world.run.wear (subst (λ w. IsWithin w whole.world.run.wear) (none_first d.wear) grows.wear) wears;
        broken = record {
          calls = d.calls;
          breaks = ap (λ e. e.ending) broke;
          leaves = ap (λ e. between_lines opening e) broke;
          taken = ap (λ e. e.world.run.input) broke ∙ b.input;
          printed_whole = (part, ap (λ l. l ++ part) (sym (ap (λ e. e.world.run.output) broke ∙ b.output)));
          printed_part = begins_then shown (d.printed ++ d.tried) _ front more;
          saved = ap (λ e. e.world.run.saves) broke ∙ b.saves;
        };
        last_call = heard.calls;
      }

module _ {D T : Type 0} (G : Ghosts D) (H : TerminalGhosts T) (opening : state.Forth) (bytes : List ℕ) (d : Deed) (place : Option LeftAt) (c : Core) (x : World) (t u : T) (a b : D)
    (cause : HasRisenBy d.failures (G.failures a) (G.failures b)) (wears : WearsAtMost G a b d.wear) where
  answers_of : (e : LineEnd) → LineComes (λ r. line opening bytes r) d e place c x → Heard H (heard_of e) d t u
      → Answers G (line_end e) place (undone_by (line_end e) place (over opening c x)) opening bytes (closing opening e place c x) (H.input t) (H.input u) (H.output t) (H.output u) (H.calls t) (H.calls u) a b d.saves
  answers_of end.Interpreting l heard = replied G H opening bytes d place c x t u a b cause wears end.Interpreting l heard
  answers_of end.Compiling l heard = replied G H opening bytes d place c x t u a b cause wears end.Compiling l heard
  answers_of end.Quit l heard = replied G H opening bytes d place c x t u a b cause wears end.Quit l heard
  answers_of (end.Fault f) l heard = replied G H opening bytes d place c x t u a b cause wears (end.Fault f) l heard
  answers_of end.Io l heard = cut_off G H opening bytes d place c x t u a b cause wears l heard

module _ {D T : Type 0} (G : Ghosts D) (H : TerminalGhosts T) where
  pub promised : (opening : state.Forth) (bytes : List ℕ) (e : LineEnd) (old new : Forth D G) (t u : T) → IsSystem old opening → new.budget ≡ old.budget → suits G (device new) ≡ suits G (device old)
      → RanLine H (λ r. line opening bytes r) e old new t u opening.world
      → (after : state.Forth) × (made : List Save) × IsSystem new after
      × Answers G (line_end e) new.place (undone_by (line_end e) new.place after) opening bytes (settled_by (line_end e) new.place after) (H.input t) (H.input u) (H.output t) (H.output u) (H.calls t) (H.calls u) (device old) (device new) made
      × Keeps G opening after (device old) (device new) made
  promised opening bytes e old new t u system budget model h =
      let k = h.came system.model in
      let kept = h.keeps system.model in (
        over opening k.core h.world,
        h.deed.saves,
        record {
          represents = record {
            budget = system.represents.budget ∙ sym (ap (λ b. b.steps) budget);
            undoes = system.represents.undoes ∙ sym (ap (λ b. b.undoes) budget);
            same_core = record { stack = k.same_core.stack; space = k.same_core.space };
            rests = record { meant = h.rests.meant; held_end = h.rests.held_end; held = h.rests.held; buffers = h.rests.buffers; loads = h.rests.loads; maps = h.rests.maps };
          };
          model = subst IsTrue (sym model) system.model;
        },
        answers_of G H opening bytes h.deed new.place k.core h.world t u (device old) (device new) h.cause kept.wears e k.comes h.heard,
        kept.keeps,
      )
