-- Rounds of a line's loop, one after another.
use Rattle.std.proofs.Common.{◌≡◌, ℕ, ◌≤◌, IsTrue, true, List, [], Result, Ok, Err, refl, sym, ap, subst, ◌∙◌, arith}
use Rattle.sector_disk.specs.Disk.{Image, MayLeave}
use Rattle.sector_disk.specs.Counting.{count_up}
use Rattle.sector_disk.specs.declared.device.SectorDevice.{Ghosts}
use Rattle.sector_disk.proofs.Moments.{elapses_refl, elapses_then}
use Rattle.block_words.specs.Parts.{store_of}
use Rattle.cell_machine.specs.Frames.{Core, Level}
use Rattle.cell_machine.specs.Value.{Outcome, Did, Ends}
use Rattle.block_words.specs.Words.{no_wear}
use Rattle.interpreter.specs.declared.terminal.Terminal.{Ghosts as TerminalGhosts}
use Rattle.interpreter.specs.declared.fault.Stop.{Stop}
use Rattle.interpreter.specs.declared.fault.Stop.TheVariants as stop
use Rattle.interpreter.specs.declared.interpreting.Round.{Round}
use Rattle.interpreter.specs.declared.interpreting.Round.TheVariants.{GoesOn, Over}
use Rattle.interpreter.specs.declared.forth.Forth.{Forth}
use Rattle.interpreter.specs.Deeds.{Deed, nothing, then, before, after, Fits}
use Rattle.interpreter.specs.Law.{left}
use Rattle.interpreter.specs.State.{World, Run, with_run}
use Rattle.cell_machine.specs.Fault.{Ending}
use Rattle.block_words.specs.declared.buffered_blocks.Blocks.{Blocks}
use Rattle.journal.specs.Store.{device_of}
use Rattle.journal.specs.Suits.{suits}
use Rattle.interpreter.specs.Promise.{HasRisenBy}
use Rattle.interpreter.specs.Representation.{core, device, RepresentsWorld, Represents}
use Rattle.interpreter.specs.ServiceContract.{Comes, Left, IsLike, Printed, KeepsAndWears, Lasts, WhereBroke, Ran, failed_calls}
use Rattle.interpreter.specs.RoundContract.{RoundComes, RanRound, LastsRound}
use Rattle.interpreter.proofs.Deeds.{before-nothing, after-nothing, after-then}
use Rattle.interpreter.proofs.Running.{OnlyNow, comes_as, maps_same, heard_nothing}
use Rattle.block_words.proofs.Counted.{risen_then}
use Rattle.interpreter.proofs.Then.{fits_second, both_come, comes_then, heard_none, heard_then, maps_then}
use Rattle.std.proofs.KnownBytes.{Appends-nil}

-- ---- at any device and terminal

broke_then : (result : Result (Unit {0}) Stop) (a b c : ℕ) → b ≡ a → WhereBroke result (c ≡ count_up b) (c ≡ b) → WhereBroke result (c ≡ count_up a) (c ≡ a)
broke_then (Ok v) a b c same h = h ∙ same
broke_then (Err stop.Io) a b c same h = h ∙ ap count_up same
broke_then (Err stop.Quit) a b c same h = h ∙ same
broke_then (Err stop.Abort) a b c same h = h ∙ same
broke_then (Err (stop.Fault f)) a b c same h = h ∙ same

module _ {D T : Type 0} (G : Ghosts D) (H : TerminalGhosts T) (widens : (d : D) (s t : ℕ) (c : Image) → s ≤ t → G.left_since d t c → G.left_since d s c) where
  pub lasts_then : {result : Result (Unit {0}) Stop} {a b c : D} {t u v : T} → Lasts G H (Ok tt) a b t u → Lasts G H result b c u v → Lasts G H result a c t v
  lasts_then {result} {a} {b} {c} {t} {u} {v} first second = record {
    time = elapses_then G.time G.left_since a b c (widens c) first.time second.time;
    model = second.model ∙ first.model;
    device_failures = omega (arith, first.device_failures, second.device_failures);
    terminal_failures = broke_then result (H.failures t) (H.failures u) (H.failures v) first.terminal_failures second.terminal_failures;
    no_more = omega (arith, first.no_more, second.no_more);
    same = second.same ∙ first.same;
  }

pub lasts_nothing : {D T : Type 0} (G : Ghosts D) (H : TerminalGhosts T) (d : D) (t : T) → Lasts G H (Ok tt) d d t t
lasts_nothing G H d t =
    record { time = elapses_refl G.time G.left_since d; model = refl; device_failures = omega arith; terminal_failures = refl; no_more = omega arith; same = refl }

-- ---- rounds

round_comes_then : (n : ℕ) (start start2 : Run → Outcome World) (d e : Deed) (first : (r : Run) → Fits d r → start (before d r) ≡ start2 (after d r)) (none : d.met ≡ true → e.given ≡ [])
    (result : Result Round Stop) (levels : List Level) (c : Core) (x : World) → RoundComes n start2 e result levels c x → RoundComes n start (then d e) result levels c x
round_comes_then n start start2 d e first none (Ok GoesOn) levels c x h = λ r fits.
    both_come start start2 d e first none r fits ∙ h (after d r) (fits_second start start2 d e first none r fits) ∙ ap (λ r. left n levels c (with_run r x)) (sym (after-then d e r))
round_comes_then n start start2 d e first none (Ok Over) levels c x h = λ r fits.
    both_come start start2 d e first none r fits ∙ h (after d r) (fits_second start start2 d e first none r fits) ∙ ap (λ r. Did c (with_run r x)) (sym (after-then d e r))
round_comes_then n start start2 d e first none (Err s) levels c x h = comes_then start start2 d e first none (Err s) c x h

module _ {D T : Type 0} (G : Ghosts D) (H : TerminalGhosts T) (counts_now : (d : D) (t : ℕ) (c : Image) → t ≤ G.time d → MayLeave (G.disk d) c → G.left_since d t c)
    (widens : (d : D) (s t : ℕ) (c : Image) → s ≤ t → G.left_since d t c → G.left_since d s c) (only_now : OnlyNow G) (n : ℕ) where
  -- nothing was done yet
  pub round_of_nothing : (forth : Forth D G) (levels : List Level) (x : World) (t : T) → Represents forth levels x → RanRound H n (λ r. left n levels (core forth) (with_run r x)) (Ok GoesOn) forth forth t t x
  round_of_nothing forth levels x t stands = record {
    deed = nothing;
    levels = levels;
    world = x;
    stands = stands;
    steps = omega arith;
    comes = λ model r fits.
        ap (λ r. left n levels (core forth) (with_run r x)) (before-nothing r) ∙ ap (λ r. left n levels (core forth) (with_run r x)) (sym (after-nothing r));
    heard = heard_nothing H (Ok tt) t refl (Appends-nil (H.output t));
    cause = refl;
    keeps = λ model. maps_same G only_now (store_of forth.blocks) x.maps (stands.rests.maps model);
  }

  -- some rounds, and one more
  pub round_then : {start : Run → Outcome World} {result : Result Round Stop} {old mid new : Forth D G} {t u v : T} {x : World}
      → LastsRound G H (Ok GoesOn) (device old) (device mid) t u → LastsRound G H result (device mid) (device new) u v
      → (first : RanRound H n start (Ok GoesOn) old mid t u x)
      → RanRound H n (λ r. left n first.levels (core mid) (with_run r first.world)) result mid new u v first.world
      → RanRound H n start result old new t v x
  round_then {start} {result} {old} {mid} {new} {t} {u} {v} {x} on on_then first second = record {
    deed = then first.deed second.deed;
    levels = second.levels;
    world = second.world;
    stands = second.stands;
    steps = omega (arith, first.steps, second.steps);
    comes = λ model.
        round_comes_then n start (λ r. left n first.levels (core mid) (with_run r first.world)) first.deed second.deed (first.comes model) (heard_none H first.heard second.heard) result second.levels (core new) second.world
        (second.comes (subst IsTrue (sym on.model) model));
    heard = heard_then H first.heard second.heard;
    cause = risen_then first.deed.failures second.deed.failures (G.failures (device old)) (G.failures (device mid)) (G.failures (device new)) first.cause second.cause;
    keeps = λ model.
        maps_then G counts_now widens only_now x.maps first.world.maps second.world.maps (device old) (device mid) (device new) first.deed.saves second.deed.saves first.deed.wear second.deed.wear on.time on_then.time
        (first.keeps model) (second.keeps (subst IsTrue (sym on.model) model));
  }

-- rounds up to the end of the line's text, or to what ends the line
module _ {D T : Type 0} {G : Ghosts D} (H : TerminalGhosts T) (n : ℕ) where
  pub over_ran : {start : Run → Outcome World} {old new : Forth D G} {t u : T} {x : World} → RanRound H n start (Ok Over) old new t u x → Ran H start (Ok tt) old new t u [] x
  over_ran h = record { deed = h.deed; world = h.world; stands = h.stands; steps = h.steps; comes = h.comes; heard = h.heard; cause = h.cause; keeps = h.keeps }

  pub stopped_ran : {start : Run → Outcome World} {s : Stop} {old new : Forth D G} {t u : T} {x : World} → RanRound H n start (Err s) old new t u x → Ran H start (Err s) old new t u [] x
  stopped_ran h = record { deed = h.deed; world = h.world; stands = h.stands; steps = h.steps; comes = h.comes; heard = h.heard; cause = h.cause; keeps = h.keeps }

-- what comes of the line before it may be said otherwise
round_comes_as : (n : ℕ) (start start' : Run → Outcome World) (deed : Deed) (result : Result Round Stop) (levels : List Level) (c : Core) (x : World) → ((r : Run) → start' r ≡ start r) → RoundComes n start deed result levels c x → RoundComes n start' deed result levels c x
round_comes_as n start start' deed (Ok GoesOn) levels c x same h = λ r fits. same (before deed r) ∙ h r fits
round_comes_as n start start' deed (Ok Over) levels c x same h = λ r fits. same (before deed r) ∙ h r fits
round_comes_as n start start' deed (Err s) levels c x same h = comes_as start start' deed (Err s) c x same h

module _ {D T : Type 0} {G : Ghosts D} (H : TerminalGhosts T) (n : ℕ) where
  pub round_as : {start : Run → Outcome World} (start' : Run → Outcome World) {result : Result Round Stop} {mid new : Forth D G} (old : Forth D G) {t u : T} {x : World}
      → ((r : Run) → start' r ≡ start r) → mid.steps ≤ old.steps → mid.blocks ≡ old.blocks
      → RanRound H n start result mid new t u x → RanRound H n start' result old new t u x
  round_as {start} start' {result} {mid} {new} old {t} {u} {x} same less blocks h = record {
    deed = h.deed;
    levels = h.levels;
    world = h.world;
    stands = h.stands;
    steps = omega (arith, h.steps, less);
    comes = λ model. round_comes_as n start start' h.deed result h.levels (core new) h.world same (h.comes (subst (λ (b : Blocks D G). IsTrue (suits G (device_of (store_of b)))) (sym blocks) model));
    heard = h.heard;
    cause = subst (λ (b : Blocks D G). HasRisenBy h.deed.failures (G.failures (device_of (store_of b))) (G.failures (device new))) blocks h.cause;
    keeps = λ model. subst (λ (b : Blocks D G). KeepsAndWears G x.maps h.world.maps (device_of (store_of b)) (device new) h.deed.saves h.deed.wear) blocks (h.keeps (subst (λ (b : Blocks D G). IsTrue (suits G (device_of (store_of b)))) (sym blocks) model));
  }

-- the machine ends the line
module _ {D T : Type 0} (G : Ghosts D) (H : TerminalGhosts T) (only_now : OnlyNow G) (n : ℕ) where
  pub round_left : {start : Run → Outcome World} (s : Stop) (old new : Forth D G) (t : T) {x : World}
      → RepresentsWorld new x → new.blocks ≡ old.blocks → new.steps ≤ old.steps
      → Comes start nothing (Err s) (core new) x → failed_calls (Err s) ≡ 0 → Printed (Err s) (H.output t) (H.output t) [] [] → RanRound H n start (Err s) old new t t x
  round_left {start} s old new t {x} rests blocks less comes well printed = record {
    deed = nothing;
    levels = [];
    world = x;
    stands = rests;
    steps = less;
    comes = λ model. comes;
    heard = heard_nothing H (Err s) t well printed;
    cause = ap (λ (b : Blocks D G). G.failures (device_of (store_of b))) blocks;
    keeps = λ model.
        subst (λ (b : Blocks D G). KeepsAndWears G x.maps x.maps (device_of (store_of b)) (device new) [] no_wear) blocks
        (maps_same G only_now (store_of new.blocks) x.maps (rests.maps (subst (λ (b : Blocks D G). IsTrue (suits G (device_of (store_of b)))) (sym blocks) model)));
  }

-- it ends it so, in each run
pub left_so : (start : Run → Outcome World) (e : Ending) (said c : Core) (x : World) → IsLike e said c → ((r : Run) → start r ≡ Ends e said (with_run r x)) → Left start nothing e c x
left_so start e said c x like ends =
    record { core = said; like = like; ends = λ r fits. ap start (before-nothing r) ∙ ends r ∙ ap (λ r. Ends e said (with_run r x)) (sym (after-nothing r)) }
