-- Lines and their replies.
use Rattle.std.proofs.Common.{◌≡◌, ◌⊎◌, inl, inr, ⊎_elim, ℕ, zero, suc, ◌≤◌, Bool, true, false, IsTrue, List, [], ◌∷◌, ◌++◌, codes, Option, Some, None, Result, Ok, Err, refl, sym, ap, subst, ◌∙◌, append_assoc, arith}
use Rattle.std.proofs.lemmas.List.{append-nil}
use Rattle.std.specs.Io.KnownBytes.{Appends}
use Rattle.sector_disk.specs.Disk.{Image, MayLeave}
use Rattle.sector_disk.specs.declared.device.SectorDevice.{Ghosts}
use Rattle.block_words.specs.Parts.{store_of}
use Rattle.std.specs.Prelude.{nat_le, length}
use Rattle.cell_machine.specs.Fault.{LineLength, Ending, Faults, Quits, Aborts, Breaks}
use Rattle.cell_machine.specs.Frames.{Core}
use Rattle.cell_machine.specs.Value.{Outcome, Did, Ends}
use Rattle.interpreter.specs.declared.terminal.Terminal.{Ghosts as TerminalGhosts}
use Rattle.interpreter.specs.declared.fault.Stop.{Stop}
use Rattle.interpreter.specs.declared.fault.Fault.{Fault}
use Rattle.interpreter.specs.declared.fault.Stop.TheVariants as stop
use Rattle.interpreter.specs.declared.lines.LineEnd.{LineEnd}
use Rattle.interpreter.specs.declared.lines.LineEnd.TheVariants as end
use Rattle.interpreter.specs.declared.forth.Forth.{Forth}
use Rattle.interpreter.specs.Deeds.{Deed, then, before, after, mended, Fits}
use Rattle.interpreter.specs.declared.place.LeftAt.{LeftAt}
use Rattle.interpreter.specs.declared.place.LeftAt.TheVariants as left
use Rattle.interpreter.specs.declared.place.Place.{Place}
use Rattle.interpreter.specs.FaultNames.{fault_name}
use Rattle.interpreter.specs.Law.{run_after, Grows, left}
use Rattle.interpreter.specs.Lines as lines
use Rattle.interpreter.specs.State as lines_state
use Rattle.interpreter.specs.Lines.{line, line_if, with_line, text_of_line, Ended, at_rest, dropped, with_empty_stack, broken, replied, reply, after_fault, end_of_line, ended, place_in}
use Rattle.interpreter.specs.Promise.{HasRisenBy}
use Rattle.interpreter.specs.State.{World, Run, with_run, with_output, without_loads}
use Rattle.interpreter.specs.Stops.{fault_of, ending_of}
use Rattle.interpreter.specs.Text.{compiling}
use Rattle.interpreter.specs.Terminal.{AppendsSome, Begins}
use Rattle.interpreter.specs.Terminals.{terminal_call, print}
use Rattle.interpreter.specs.Representation.{core, device, HasModel, RepresentsWorld}
use Rattle.interpreter.specs.ServiceContract.{Comes, IsLike, Left, Broke, BreaksOff, Heard, KeepsAndWears, Lasts, Ran}
use Rattle.block_words.specs.declared.buffered_blocks.Blocks.{Blocks}
use Rattle.journal.specs.Store.{device_of}
use Rattle.journal.specs.Suits.{suits}
use Rattle.interpreter.specs.LineContract.{line_end, is_broken, heard_of, LineLeft, LineBroke, LineBreaksOff, LineComes, LineCame, RanLine, SameStackAndSpace, SameSpace}
use Rattle.interpreter.proofs.Deeds.{printing, trying, after-then, mended-then}
use Rattle.interpreter.proofs.Calls.{print-well, print-fails, heard_print, heard_unprinted}
use Rattle.interpreter.proofs.Running.{OnlyNow, maps_same}
use Rattle.block_words.proofs.Counted.{risen_then}
use Rattle.interpreter.proofs.Then.{fits_second, both_come, heard_none, heard_then, maps_then}
use Rattle.block_words.specs.Words.{no_wear}
use Rattle.interpreter.proofs.Wearing.{within_same, within_then}
use Rattle.sector_disk.specs.Counting.{count_up}

-- an end that isn't that of a failed terminal
pub line_left : (start : Run → Ended) (deed : Deed) (e : LineEnd) (place : Option LeftAt) (c : Core) (x : World) → is_broken e ≡ false → LineLeft start deed e place c x → LineComes start deed e place c x
line_left start deed end.Interpreting place c x well h = h
line_left start deed end.Compiling place c x well h = h
line_left start deed end.Quit place c x well h = h
line_left start deed (end.Fault f) place c x well h = h
line_left start deed end.Io place c x well h = absurd (let no : true ≡ false = well in cc)

pub heard_well : (e : LineEnd) → is_broken e ≡ false → heard_of e ≡ Ok tt
heard_well end.Interpreting well = refl
heard_well end.Compiling well = refl
heard_well end.Quit well = refl
heard_well (end.Fault f) well = refl
heard_well end.Io well = absurd (let no : true ≡ false = well in cc)

-- ---- what a terminal that fails leaves

replied_run : (e : lines.LineEnd) (place : Option LeftAt) (o : Outcome World) → (replied e place o).world.run ≡ run_after o
replied_run e place (Did c x) = refl
replied_run e place (Ends i c x) = refl

pub replied_broke : (e : lines.LineEnd) (place : Option LeftAt) (start : Run → Outcome World) (deed : Deed) (c : Core) (x : World) (h : Broke start deed c x) → LineBroke (λ r. replied e place (start r)) deed (with_empty_stack (at_rest h.core)) (dropped x)
replied_broke e place start deed c x h = record {
  breaks = λ r fits none. let b : BreaksOff start deed h.core x r = h.breaks r fits none in record { run = b.run; ends = ap (λ o. replied e place o) b.ends; input = b.input; output = b.output; saves = b.saves };
  grows = λ r fits. subst (λ q. Grows (after (mended deed) r) q) (sym (replied_run e place (start (before (mended deed) r)))) (h.grows r fits);
  input = λ r fits never none. subst (λ q. q.input ≡ []) (sym (replied_run e place (start (before deed r)))) (h.input r fits never none);
  failures = λ r fits never none. subst (λ q. q.failures ≡ (after deed r).failures) (sym (replied_run e place (start (before deed r)))) (h.failures r fits never none);
}

-- ---- the end of a reply

same_model : {D : Type 0} {G : Ghosts D} (b c : Blocks D G) → c ≡ b → IsTrue (suits G (device_of (store_of b))) → IsTrue (suits G (device_of (store_of c)))
same_model {D} {G} b c same model = subst (λ (b : Blocks D G). IsTrue (suits G (device_of (store_of b)))) (sym same) model

module _ {D T : Type 0} (G : Ghosts D) (H : TerminalGhosts T) (only_now : OnlyNow G) where
  -- it is printed
  pub said_well : (e : LineEnd) (place : Option LeftAt) (bytes : List ℕ) (forth : Forth D G) (t u : T) (c : Core) (x : World) → is_broken e ≡ false → SameStackAndSpace c forth → RepresentsWorld forth x
      → H.input u ≡ H.input t → Appends (H.output t) (H.output u) bytes → H.calls u ≡ count_up (H.calls t)
      → RanLine H (λ r. replied (line_end e) place (print bytes c (with_run r x))) e forth (record forth { place = place }) t u x
  said_well e place bytes forth t u c x well same_core rests input printed counted = record {
    deed = printing bytes 1;
    world = x;
    rests = rests;
    came = λ model.
        record { core = c; same_core = record { stack = same_core.stack; space = same_core.space }; comes = line_left _ (printing bytes 1) e place c x well (record { ends = λ r fits. ap (λ o. replied (line_end e) place o) (print-well bytes c x r) }) };
    heard = subst (λ (o : Result (Unit {0}) Stop). Heard H o (printing bytes 1) t u) (sym (heard_well e well))
        (heard_print H bytes input printed counted);
    cause = refl;
    keeps = λ model. maps_same G only_now (store_of forth.blocks) x.maps (rests.maps model);
  }

  -- the terminal fails
  pub said_broke : (e : lines.LineEnd) (place : Option LeftAt) (bytes : List ℕ) (old new : Forth D G) (t u : T) (c : Core) (x : World) → RepresentsWorld old x → new.blocks ≡ old.blocks
      → ((said : Core) → said.space ≡ c.space → SameStackAndSpace (with_empty_stack (at_rest said)) new) → RepresentsWorld new (dropped x)
      → H.input u ≡ H.input t → AppendsSome (H.output t) (H.output u) bytes → H.calls u ≡ count_up (H.calls t)
      → RanLine H (λ r. replied e place (print bytes c (with_run r x))) end.Io old new t u x
  said_broke e place bytes old new t u c x rests blocks same_core after_rests input printed counted = record {
    deed = trying bytes;
    world = dropped x;
    rests = after_rests;
    came = λ model.
        let h = print-fails bytes c x in
        record { core = with_empty_stack (at_rest h.core); same_core = same_core h.core h.like; comes = replied_broke e place (λ r. print bytes c (with_run r x)) (trying bytes) c x h };
    heard = heard_unprinted H bytes input printed counted;
    cause = ap (λ (b : Blocks D G). G.failures (device_of (store_of b))) blocks;
    keeps = λ model.
        subst (λ (b : Blocks D G). KeepsAndWears G x.maps x.maps (device old) (device_of (store_of b)) [] no_wear) (sym blocks) (maps_same G only_now (store_of old.blocks) x.maps (rests.maps model));
  }

-- ---- one after another

module _ {D T : Type 0} {G : Ghosts D} (H : TerminalGhosts T) where
  pub came_as : {start : Run → Ended} (start' : Run → Ended) {deed : Deed} (e : LineEnd) {new : Forth D G} {x : World} → ((r : Run) → start' r ≡ start r) → LineCame start deed e new x → LineCame start' deed e new x
  came_as {start} start' {deed} e {new} {x} same h = record { core = h.core; same_core = h.same_core; comes = comes e h.comes }
    where
      comes : (e : LineEnd) → LineComes start deed e new.place h.core x → LineComes start' deed e new.place h.core x
      comes end.Interpreting k = record { ends = λ r fits. same (before deed r) ∙ k.ends r fits }
      comes end.Compiling k = record { ends = λ r fits. same (before deed r) ∙ k.ends r fits }
      comes end.Quit k = record { ends = λ r fits. same (before deed r) ∙ k.ends r fits }
      comes (end.Fault f) k = record { ends = λ r fits. same (before deed r) ∙ k.ends r fits }
      comes end.Io k = record {
        breaks = λ r fits none. let b : LineBreaksOff start deed h.core x r = k.breaks r fits none in record { run = b.run; ends = same (before deed r) ∙ b.ends; input = b.input; output = b.output; saves = b.saves };
        grows = λ r fits. subst (λ o. Grows (after (mended deed) r) o.world.run) (sym (same (before (mended deed) r))) (k.grows r fits);
        input = λ r fits never none. subst (λ o. o.world.run.input ≡ []) (sym (same (before deed r))) (k.input r fits never none);
        failures = λ r fits never none. subst (λ o. o.world.run.failures ≡ (after deed r).failures) (sym (same (before deed r))) (k.failures r fits never none);
      }

  -- what comes of the line before it may be said otherwise
  pub lined_as : {start : Run → Ended} (start' : Run → Ended) (e : LineEnd) {mid new : Forth D G} (old : Forth D G) {t u : T} {x : World} (y : World)
      → ((r : Run) → start' r ≡ start r) → mid.blocks ≡ old.blocks → x.maps ≡ y.maps
      → RanLine H start e mid new t u x → RanLine H start' e old new t u y
  lined_as {start} start' e {mid} {new} old {t} {u} {x} y same blocks maps h = record {
    deed = h.deed;
    world = h.world;
    rests = h.rests;
    came = λ model. came_as start' e same (h.came (same_model old.blocks mid.blocks blocks model));
    heard = h.heard;
    cause = subst (λ (b : Blocks D G). HasRisenBy h.deed.failures (G.failures (device_of (store_of b))) (G.failures (device new))) blocks h.cause;
    keeps = λ model.
        subst (λ (b : Blocks D G). KeepsAndWears G y.maps h.world.maps (device_of (store_of b)) (device new) h.deed.saves h.deed.wear) blocks
        (subst (λ m. KeepsAndWears G m h.world.maps (device mid) (device new) h.deed.saves h.deed.wear) maps (h.keeps (same_model old.blocks mid.blocks blocks model)));
  }

-- ---- what came before the reply

line_comes_then : (start start2 : Run → Ended) (d e : Deed) (first : (r : Run) → Fits d r → start (before d r) ≡ start2 (after d r)) (none : d.met ≡ true → e.given ≡ [])
    (how : LineEnd) (place : Option LeftAt) (c : Core) (x : World) → LineComes start2 e how place c x → LineComes start (then d e) how place c x
line_comes_then start start2 d e first none how place c x h = pick how h
  where
    comes_of : (r : Run) → Fits (then d e) r → start (before (then d e) r) ≡ start2 (before e (after d r))
    comes_of r fits = both_come start start2 d e first none r fits

    seconds : (r : Run) → Fits (then d e) r → Fits e (after d r)
    seconds r fits = fits_second start start2 d e first none r fits

    left_then : (i : LineEnd) → LineLeft start2 e i place c x → LineLeft start (then d e) i place c x
    left_then i k = record { ends = λ r fits. comes_of r fits ∙ k.ends (after d r) (seconds r fits) ∙ ap (λ q. record { ending = line_end i; place = place; core = c; world = with_run q x }) (sym (after-then d e r)) }

    pick : (how : LineEnd) → LineComes start2 e how place c x → LineComes start (then d e) how place c x
    pick end.Interpreting k = left_then end.Interpreting k
    pick end.Compiling k = left_then end.Compiling k
    pick end.Quit k = left_then end.Quit k
    pick (end.Fault f) k = left_then (end.Fault f) k
    pick end.Io k = record {
      breaks = λ r fits none.
          let b : LineBreaksOff start2 e c x (after d r) = k.breaks (after d r) (seconds r fits) none in
          record { run = b.run; ends = comes_of r fits ∙ b.ends; input = b.input; output = b.output ∙ append_assoc r.output d.printed e.printed; saves = b.saves ∙ append_assoc r.saves d.saves e.saves };
      grows = λ r fits.
          let f : Deed = mended e in
          subst (λ b. Grows (after b r) (start (before b r)).world.run) (sym (mended-then d e))
          (subst (λ o. Grows (after (then d f) r) o.world.run) (sym (both_come start start2 d f first none r fits))
          (subst (λ q. Grows q (start2 (before f (after d r))).world.run) (sym (after-then d f r)) (k.grows (after d r) (seconds r fits))));
      input = λ r fits never none. subst (λ o. o.world.run.input ≡ []) (sym (comes_of r fits)) (k.input (after d r) (seconds r fits) never none);
      failures = λ r fits never none.
          subst (λ o. o.world.run.failures ≡ (after (then d e) r).failures) (sym (comes_of r fits))
          (subst (λ f. (start2 (before e (after d r))).world.run.failures ≡ f.failures) (sym (after-then d e r)) (k.failures (after d r) (seconds r fits) never none));
    }

-- a part of the line, and then its end
module _ {D T : Type 0} (G : Ghosts D) (H : TerminalGhosts T) (counts_now : (d : D) (t : ℕ) (c : Image) → t ≤ G.time d → MayLeave (G.disk d) c → G.left_since d t c)
    (widens : (d : D) (s t : ℕ) (c : Image) → s ≤ t → G.left_since d t c → G.left_since d s c) (only_now : OnlyNow G) where
  pub lined_then : {start start2 : Run → Ended} {e : LineEnd} {old mid new : Forth D G} {t u v : T} {x w : World} (d : Deed)
      → Lasts G H (Ok tt) (device old) (device mid) t u → Lasts G H (heard_of e) (device mid) (device new) u v
      → Heard H (Ok tt) d t u → HasRisenBy d.failures (G.failures (device old)) (G.failures (device mid))
      → (HasModel old → KeepsAndWears G x.maps w.maps (device old) (device mid) d.saves d.wear)
      → (HasModel old → (r : Run) → Fits d r → start (before d r) ≡ start2 (after d r))
      → RanLine H start2 e mid new u v w → RanLine H start e old new t v x
  lined_then {start} {start2} {e} {old} {mid} {new} {t} {u} {v} {x} {w} d on on_then heard cause keeps first h = record {
    deed = then d h.deed;
    world = h.world;
    rests = h.rests;
    came = λ model.
        let k = h.came (subst IsTrue (sym on.model) model) in
        record { core = k.core; same_core = k.same_core; comes = line_comes_then start start2 d h.deed (first model) (heard_none H heard h.heard) e new.place k.core h.world k.comes };
    heard = heard_then H heard h.heard;
    cause = risen_then d.failures h.deed.failures (G.failures (device old)) (G.failures (device mid)) (G.failures (device new)) cause h.cause;
    keeps = λ model.
        maps_then G counts_now widens only_now x.maps w.maps h.world.maps (device old) (device mid) (device new) d.saves h.deed.saves d.wear h.deed.wear on.time on_then.time
        (keeps model) (h.keeps (subst IsTrue (sym on.model) model));
  }

-- ---- a reply goes on from what came before it

record Follows (p q : Run) : Type 0 where
  grows : Grows p q
  input : q.input ≡ p.input
  failures : q.failures ≡ p.failures

follows_of : (p q : Run) (bytes : List ℕ) → q.output ≡ p.output ++ bytes → q.saves ≡ p.saves → q.input ≡ p.input → q.failures ≡ p.failures → q.wear ≡ p.wear → Follows p q
follows_of p q bytes out saves input failures wear =
    record { grows = record { output = (bytes, out); saves = ([], saves ∙ sym (append-nil p.saves)); wear = within_same p.wear q.wear wear }; input = input; failures = failures }

call_follows : (e : lines.LineEnd) (place : Option LeftAt) (o : Option ℕ) (c : Core) (bytes : List ℕ) (y : World) → Follows y.run (replied e place (terminal_call o c y (λ x. Did c (with_output (x.run.output ++ bytes) x)))).world.run
call_follows e place None c bytes y = follows_of y.run (record y.run { output = y.run.output ++ bytes }) bytes refl refl refl refl refl
call_follows e place (Some zero) c bytes y = follows_of y.run y.run [] (sym (append-nil y.run.output)) refl refl refl refl
call_follows e place (Some (suc k)) c bytes y = follows_of y.run (record y.run { output = y.run.output ++ bytes; terminal = Some k }) bytes refl refl refl refl refl

said_follows : (e : lines.LineEnd) (place : Option LeftAt) (bytes : List ℕ) (c : Core) (x : World) → Follows x.run (reply e place bytes c x).world.run
said_follows e place bytes c x = call_follows e place x.run.terminal c bytes x

line_follows : (b : Bool) (c : Core) (x : World) → Follows x.run (end_of_line b c x).world.run
line_follows true c x = said_follows lines.LineEnd.Compiling None (10 ∷ []) c x
line_follows false c x = said_follows lines.LineEnd.Interpreting None (codes " ok" ++ 10 ∷ []) c x

ends_follow : (e : Ending) (c : Core) (x : World) → Follows x.run (ended (Ends e c x)).world.run
ends_follow Quits c x = said_follows lines.LineEnd.Quit None (10 ∷ []) (at_rest c) (dropped x)
ends_follow Aborts c x = said_follows lines.LineEnd.Quit (Some left.Abort) (10 ∷ []) (with_empty_stack (at_rest c)) (dropped x)
ends_follow Breaks c x = follows_of x.run x.run [] (sym (append-nil x.run.output)) refl refl refl refl
ends_follow (Faults f) c x = said_follows (lines.LineEnd.Fails f) (Some (left.Fault (place_in c.space))) (codes " ? " ++ (fault_name f ++ 10 ∷ [])) (with_empty_stack (at_rest c)) (dropped x)

ended_follows : (o : Outcome World) → Follows (run_after o) (ended o).world.run
ended_follows (Did c x) = line_follows (compiling c) c x
ended_follows (Ends e c x) = ends_follow e c x

pub begins_then : {A : Type 0} (a b c : List A) → Begins a b → Begins b c → Begins a c
begins_then a b c h k = (h.0 ++ k.0, k.1 ∙ ap (λ l. l ++ k.0) h.1 ∙ append_assoc a h.0 k.0)

pub grows_then : (p q s : Run) → Grows p q → Grows q s → Grows p s
grows_then p q s h k = record { output = begins_then p.output q.output s.output h.output k.output; saves = begins_then p.saves q.saves s.saves h.saves k.saves; wear = within_then p.wear q.wear s.wear h.wear k.wear }

-- the terminal failed before the reply
pub ended_broke : (start : Run → Outcome World) (deed : Deed) (c : Core) (x : World) (h : Broke start deed c x) → LineBroke (λ r. ended (start r)) deed (with_empty_stack (at_rest h.core)) (dropped x)
ended_broke start deed c x h = record {
  breaks = λ r fits none. let b : BreaksOff start deed h.core x r = h.breaks r fits none in record { run = b.run; ends = ap (λ o. ended o) b.ends; input = b.input; output = b.output; saves = b.saves };
  grows = λ r fits.
      let o : Outcome World = start (before (mended deed) r) in grows_then (after (mended deed) r) (run_after o) (ended o).world.run (h.grows r fits) (ended_follows o).grows;
  input = λ r fits never none. (ended_follows (start (before deed r))).input ∙ h.input r fits never none;
  failures = λ r fits never none. let f = h.failures r fits never none in let e = (ended_follows (start (before deed r))).failures in omega (arith, f, e);
}

-- ---- a line from its text

pub line_opens : (opening : lines_state.Forth) (bytes : List ℕ) (budget : ℕ) (c : Core) → opening.budget ≡ budget → nat_le (length bytes) 1024 ≡ true → c ≡ with_line bytes budget opening.core
    → (r : Run) → line opening bytes r ≡ ended (left (suc budget) [] c (with_run r (without_loads opening.world)))
line_opens opening bytes budget c same short core r =
    ap (λ b. line_if b bytes opening.budget opening.core (with_run r opening.world)) short
    ∙ ap (λ n. ended (text_of_line n (with_line bytes n opening.core) (with_run r (without_loads opening.world)))) same
    ∙ ap (λ c. ended (left (suc budget) [] c (with_run r (without_loads opening.world)))) (sym core)

pub line_too_long : (opening : lines_state.Forth) (bytes : List ℕ) → nat_le (length bytes) 1024 ≡ false → (r : Run) → line opening bytes r ≡ after_fault None LineLength opening.core (with_run r opening.world)
line_too_long opening bytes long r = ap (λ b. line_if b bytes opening.budget opening.core (with_run r opening.world)) long

-- a stop that is none of the terminal
abbrev pub is_io : Stop → Bool
is_io stop.Io = true
is_io _ = false

module _ {T : Type 0} (H : TerminalGhosts T) where
  pub heard_calm : (s : Stop) {deed : Deed} {t u : T} → is_io s ≡ false → Heard H (Err s) deed t u → Heard H (Ok tt) deed t u
  heard_calm stop.Io well h = absurd (let no : true ≡ false = well in cc)
  heard_calm stop.Quit well h = record { given = h.given; at_end = h.at_end; printed = h.printed; calls = h.calls }
  heard_calm stop.Abort well h = record { given = h.given; at_end = h.at_end; printed = h.printed; calls = h.calls }
  heard_calm (stop.Fault f) well h = record { given = h.given; at_end = h.at_end; printed = h.printed; calls = h.calls }

pub lasts_calm : {D T : Type 0} (G : Ghosts D) (H : TerminalGhosts T) (s : Stop) {d e : D} {t u : T} → is_io s ≡ false → Lasts G H (Err s) d e t u → Lasts G H (Ok tt) d e t u
lasts_calm G H stop.Io well h = absurd (let no : true ≡ false = well in cc)
lasts_calm G H stop.Quit well h = record { time = h.time; model = h.model; device_failures = h.device_failures; terminal_failures = h.terminal_failures; no_more = h.no_more; same = h.same }
lasts_calm G H stop.Abort well h = record { time = h.time; model = h.model; device_failures = h.device_failures; terminal_failures = h.terminal_failures; no_more = h.no_more; same = h.same }
lasts_calm G H (stop.Fault f) well h = record { time = h.time; model = h.model; device_failures = h.device_failures; terminal_failures = h.terminal_failures; no_more = h.no_more; same = h.same }

-- the line's text, and then the end of the reply
module _ {D T : Type 0} (G : Ghosts D) (H : TerminalGhosts T) (counts_now : (d : D) (t : ℕ) (c : Image) → t ≤ G.time d → MayLeave (G.disk d) c → G.left_since d t c)
    (widens : (d : D) (s t : ℕ) (c : Image) → s ≤ t → G.left_since d t c → G.left_since d s c) (only_now : OnlyNow G) where
  pub over_lined : {start : Run → Outcome World} (start' : Run → Ended) {e : LineEnd} {old mid new : Forth D G} {t u v : T} {x : World} (h : Ran H start (Ok tt) old mid t u [] x)
      → ((r : Run) → start' r ≡ ended (start r))
      → Lasts G H (Ok tt) (device old) (device mid) t u → Lasts G H (heard_of e) (device mid) (device new) u v
      → RanLine H (λ r. end_of_line (compiling (core mid)) (core mid) (with_run r h.world)) e mid new u v h.world
      → RanLine H start' e old new t v x
  over_lined {start} start' {e} {old} {mid} {new} {t} {u} {v} {x} h opens on on_then k =
      lined_then G H counts_now widens only_now h.deed on on_then h.heard h.cause h.keeps (λ model r fits. opens (before h.deed r) ∙ ap (λ o. ended o) (h.comes model r fits)) k

  -- where the device doesn't keep the disk model, nothing is said of the line
  known : (d : D) → (b : Bool) → suits G d ≡ b → IsTrue (suits G d) ⊎ (IsTrue (suits G d) → ⊥)
  known d true is = inl is
  known d false is = inr (λ h. let no : false ≡ true = sym is ∙ h in cc)

  left_of : {start : Run → Outcome World} {deed : Deed} {c : Core} {x : World} (s : Stop) → is_io s ≡ false → Comes start deed (Err s) c x → Left start deed (ending_of s) c x
  left_of stop.Io well h = absurd (let no : true ≡ false = well in cc)
  left_of stop.Quit well h = h
  left_of stop.Abort well h = h
  left_of (stop.Fault f) well h = h

  like_itself : (e : Ending) (c : Core) → IsLike e c c
  like_itself Quits c = refl
  like_itself Aborts c = refl
  like_itself Breaks c = refl
  like_itself (Faults f) c = refl

  pub ends_lined : {start : Run → Outcome World} (start' : Run → Ended) {e : LineEnd} (s : Stop) → is_io s ≡ false → {old mid new : Forth D G} {t u v : T} {x : World} (h : Ran H start (Err s) old mid t u [] x)
      → ((r : Run) → start' r ≡ ended (start r))
      → Lasts G H (Err s) (device old) (device mid) t u → Lasts G H (heard_of e) (device mid) (device new) u v
      → ((c : Core) → IsLike (ending_of s) c (core mid) → RanLine H (λ r. ended (Ends (ending_of s) c (with_run r h.world))) e mid new u v h.world)
      → RanLine H start' e old new t v x
  ends_lined {start} start' {e} s well {old} {mid} {new} {t} {u} {v} {x} h opens on on_then k =
      ⊎_elim
      (λ model.
      let l = left_of s well (h.comes model) in
      lined_then G H counts_now widens only_now h.deed (lasts_calm G H s well on) on_then (heard_calm H s well h.heard) h.cause h.keeps
      (λ m r fits. opens (before h.deed r) ∙ ap (λ o. ended o) (l.ends r fits)) (k l.core l.like))
      (λ no.
      lined_then G H counts_now widens only_now h.deed (lasts_calm G H s well on) on_then (heard_calm H s well h.heard) h.cause h.keeps
      (λ m r fits. absurd (no m)) (k (core mid) (like_itself (ending_of s) (core mid))))
      (known (device old) (suits G (device old)) refl)

  -- a fault, whose place is where the stream stood then: what the reply doesn't name may change before it
  pub fault_lined : {start : Run → Outcome World} (start' : Run → Ended) {e : LineEnd} (f : Fault) (place : Place) {old mid next new : Forth D G} {t u v : T} {x : World}
      (h : Ran H start (Err (stop.Fault f)) old mid t u [] x)
      → ((r : Run) → start' r ≡ ended (start r))
      → Lasts G H (Err (stop.Fault f)) (device old) (device mid) t u → Lasts G H (heard_of e) (device mid) (device new) u v
      → place ≡ place_in mid.space → next.blocks ≡ mid.blocks
      → ((c : Core) → c.space ≡ mid.space → RanLine H (λ r. after_fault (Some (left.Fault place)) (fault_of f) c (with_run r h.world)) e next new u v h.world)
      → RanLine H start' e old new t v x
  fault_lined start' {e} f place {old} {mid} h opens on on_then is blocks k =
      ends_lined start' (stop.Fault f) refl h opens on on_then
      (λ c like.
      lined_as H (λ r. ended (Ends (Faults (fault_of f)) c (with_run r h.world))) e mid h.world
      (λ r. ap (λ p. after_fault (Some (left.Fault p)) (fault_of f) c (with_run r h.world)) (ap (λ s. place_in s) like ∙ sym is)) blocks refl (k c like))

  -- the terminal failed before the reply
  pub broke_lined : {start : Run → Outcome World} (start' : Run → Ended) {old mid : Forth D G} (new : Forth D G) {t u : T} {x : World} (h : Ran H start (Err stop.Io) old mid t u [] x)
      → ((r : Run) → start' r ≡ ended (start r)) → new.blocks ≡ mid.blocks
      → ((c : Core) → SameSpace c mid → SameStackAndSpace (with_empty_stack (at_rest c)) new) → RepresentsWorld new (dropped h.world)
      → RanLine H start' end.Io old new t u x
  broke_lined {start} start' {old} {mid} new {t} {u} {x} h opens blocks same_core rests = record {
    deed = h.deed;
    world = dropped h.world;
    rests = rests;
    came = λ model.
        let l = h.comes model in
        came_as H start' end.Io opens (record { core = with_empty_stack (at_rest l.core); same_core = same_core l.core (record { space = l.like }); comes = ended_broke start h.deed (core mid) h.world l });
    heard = h.heard;
    cause = subst (λ (b : Blocks D G). HasRisenBy h.deed.failures (G.failures (device old)) (G.failures (device_of (store_of b)))) (sym blocks) h.cause;
    keeps = λ model. subst (λ (b : Blocks D G). KeepsAndWears G x.maps h.world.maps (device old) (device_of (store_of b)) h.deed.saves h.deed.wear) (sym blocks) (h.keeps model);
  }
