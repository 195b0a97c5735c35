-- Parts of a line.
use Rattle.std.proofs.Common.{◌≡◌, ℕ, ◌+◌, ◌≤◌, true, false, List, [], Option, IsTrue, Result, Ok, Err, refl, sym, ap, subst, ◌∙◌, arith}
use Rattle.std.proofs.KnownBytes.{Consumes-nil, Appends-nil}
use Rattle.sector_disk.specs.Disk.{Image, MayLeave}
use Rattle.sector_disk.specs.declared.device.SectorDevice.{Ghosts}
use Rattle.journal.specs.Maps.{Maps}
use Rattle.journal.specs.declared.store.Store.{Store}
use Rattle.journal.specs.Store.{StandsFor, device_of}
use Rattle.journal.specs.Suits.{suits}
use Rattle.block_words.proofs.Runs.{keeps_store}
use Rattle.block_words.specs.Parts.{store_of}
use Rattle.cell_machine.specs.Frames.{Core, Level}
use Rattle.cell_machine.specs.Fault.{Faults}
use Rattle.cell_machine.specs.Value.{Outcome, Did, Ends}
use Rattle.interpreter.specs.declared.terminal.Terminal.{Ghosts as TerminalGhosts}
use Rattle.interpreter.specs.declared.fault.Fault.{Fault}
use Rattle.interpreter.specs.declared.fault.Stop.{Stop}
use Rattle.interpreter.specs.declared.fault.Stop.TheVariants as stop
use Rattle.interpreter.specs.declared.forth.Forth.{Forth}
use Rattle.interpreter.specs.Deeds.{Deed, nothing, before, after, mended}
use Rattle.interpreter.specs.State.{World, Run, with_run}
use Rattle.interpreter.specs.Stops.{fault_of}
use Rattle.interpreter.specs.Representation.{core, device, RepresentsWorld, Represents, RepresentsAfter}
use Rattle.interpreter.specs.ServiceContract.{Comes, Heard, Printed, KeepsAndWears, Gives, Altered, Ran, stopped, failed_calls}
use Rattle.block_words.specs.declared.buffered_blocks.Blocks.{Blocks}
use Rattle.interpreter.specs.Promise.{HasRisenBy}
use Rattle.interpreter.specs.Law.{run_after, Grows}
use Rattle.interpreter.proofs.Deeds.{before-nothing, after-nothing}
use Rattle.block_words.specs.Words.{no_wear}
use Rattle.block_words.proofs.Worn.{wears_none}
use Rattle.sector_disk.specs.Counting.{count_up_by}

-- ---- what comes of the line before it may be said otherwise

pub comes_as : (start start' : Run → Outcome World) (deed : Deed) (result : Result (Unit {0}) Stop) (c : Core) (x : World) → ((r : Run) → start' r ≡ start r) → Comes start deed result c x → Comes start' deed result c x
comes_as start start' deed (Ok v) c x same h = λ r fits. same (before deed r) ∙ h r fits
comes_as start start' deed (Err stop.Io) c x same h = record {
  core = h.core;
  like = h.like;
  breaks = λ r fits none. let b = h.breaks r fits none in record { run = b.run; ends = same (before deed r) ∙ b.ends; input = b.input; output = b.output; saves = b.saves };
  grows = λ r fits. subst (λ o. Grows (after (mended deed) r) (run_after o)) (sym (same (before (mended deed) r))) (h.grows r fits);
  input = λ r fits never none. subst (λ o. (run_after o).input ≡ []) (sym (same (before deed r))) (h.input r fits never none);
  answers = λ r fits never none. subst (λ o. (run_after o).answers ≡ []) (sym (same (before deed r))) (h.answers r fits never none);
  failures = λ r fits never none. subst (λ o. (run_after o).failures ≡ (after deed r).failures) (sym (same (before deed r))) (h.failures r fits never none);
}
comes_as start start' deed (Err stop.Quit) c x same h = record { core = h.core; like = h.like; ends = λ r fits. same (before deed r) ∙ h.ends r fits }
comes_as start start' deed (Err stop.Abort) c x same h = record { core = h.core; like = h.like; ends = λ r fits. same (before deed r) ∙ h.ends r fits }
comes_as start start' deed (Err (stop.Fault f)) c x same h = record { core = h.core; like = h.like; ends = λ r fits. same (before deed r) ∙ h.ends r fits }

-- ---- nothing seen by terminal and device

abbrev pub OnlyNow : {D : Type 0} → Ghosts D → Type 0
OnlyNow {D} G = (d : D) (c : Image) → G.left_since d (G.time d) c → MayLeave (G.disk d) c

pub maps_same : {D : Type 0} (G : Ghosts D) → OnlyNow G → (store : Store D G) (m : Maps) → StandsFor store m → KeepsAndWears G m m (device_of store) (device_of store) [] no_wear
maps_same G only_now store m stands = record {
  keeps = record { kept = keeps_store G store m only_now stands; shuts = λ h. h; none = λ h. refl; last = λ h. refl };
  wears = wears_none G (device_of store);
}

-- what reaches no terminal makes no call of it
pub none_failed : (result : Result (Unit {0}) Fault) → failed_calls (stopped result) ≡ 0
none_failed (Ok v) = refl
none_failed (Err f) = refl

pub no_calls : {T : Type 0} (H : TerminalGhosts T) (result : Result (Unit {0}) Stop) (t : T) → failed_calls result ≡ 0 → HasRisenBy (0 + failed_calls result) (H.calls t) (H.calls t)
no_calls H result t well = let e : 0 ≡ 0 + failed_calls result = omega (arith, well) in ap (λ n. count_up_by n (H.calls t)) e

pub heard_nothing : {T : Type 0} (H : TerminalGhosts T) (result : Result (Unit {0}) Stop) (t : T) → failed_calls result ≡ 0 → Printed result (H.output t) (H.output t) [] [] → Heard H result nothing t t
heard_nothing H result t well printed = record {
  given = Consumes-nil (H.input t);
  at_end = λ no. absurd (let e : false ≡ true = no in cc);
  printed = printed;
  calls = no_calls H result t well;
}

pub printed_nothing : (result : Result (Unit {0}) Fault) (o : Option (List ℕ)) → Printed (stopped result) o o [] []
printed_nothing (Ok v) o = Appends-nil o
printed_nothing (Err f) o = Appends-nil o

pub comes_quiet : (start : Run → Outcome World) (result : Result (Unit {0}) Fault) (c : Core) (x : World) → Gives start result c x → Comes start nothing (stopped result) c x
comes_quiet start (Ok v) c x g = λ r fits. ap start (before-nothing r) ∙ g r ∙ ap (λ r. Did c (with_run r x)) (sym (after-nothing r))
comes_quiet start (Err f) c x g =
    record { core = g.0; like = g.1; ends = λ r fits. ap start (before-nothing r) ∙ g.2 r ∙ ap (λ r. Ends (Faults (fault_of f)) g.0 (with_run r x)) (sym (after-nothing r)) }

-- ---- services of the smaller kinds

pub stands_stopped : {D : Type 0} {G : Ghosts D} (result : Result (Unit {0}) Fault) (forth : Forth D G) (levels : List Level) (x : World) → RepresentsAfter result forth levels x → RepresentsAfter (stopped result) forth levels x
stands_stopped (Ok v) forth levels x s = s
stands_stopped (Err f) forth levels x s = s

rests : {D : Type 0} {G : Ghosts D} {A E : Type 0} (result : Result A E) (forth : Forth D G) (levels : List Level) (x : World) → RepresentsAfter result forth levels x → RepresentsWorld forth x
rests (Ok v) forth levels x s = s.rests
rests (Err f) forth levels x s = s

module _ {D T : Type 0} (G : Ghosts D) (H : TerminalGhosts T) where
  -- one that reaches neither
  pub quiet : OnlyNow G → {start : Run → Outcome World} {result : Result (Unit {0}) Fault} (old new : Forth D G) {levels : List Level} {x : World} (t : T)
      → Represents old levels x → new.blocks ≡ old.blocks → Altered start result old new levels x → Ran H start (stopped result) old new t t levels x
  quiet only_now {start} {result} old new {levels} {x} t stands blocks h = record {
    deed = nothing;
    world = h.world;
    stands = stands_stopped result new levels h.world h.stands;
    steps = h.steps;
    comes = λ model. comes_quiet start result (core new) h.world h.gives;
    heard = heard_nothing H (stopped result) t (none_failed result) (printed_nothing result (H.output t));
    cause = ap (λ (b : Blocks D G). G.failures (device_of (store_of b))) blocks;
    keeps = λ model.
        subst (λ (b : Blocks D G). KeepsAndWears G x.maps h.world.maps (device old) (device_of (store_of b)) [] no_wear) (sym blocks)
        (subst (λ m. KeepsAndWears G x.maps m (device old) (device old) [] no_wear) (sym h.maps) (maps_same G only_now (store_of old.blocks) x.maps (stands.rests.maps model)));
  }

module _ {D T : Type 0} {G : Ghosts D} (H : TerminalGhosts T) where
  pub ran_as : {start : Run → Outcome World} (start' : Run → Outcome World) {result : Result (Unit {0}) Stop} {mid new : Forth D G} (old : Forth D G) {t t' : T} {levels : List Level} {x : World}
      → ((r : Run) → start' r ≡ start r) → mid.steps ≤ old.steps → mid.blocks ≡ old.blocks
      → Ran H start result mid new t t' levels x → Ran H start' result old new t t' levels x
  ran_as {start} start' {result} {mid} {new} old {t} {t'} {levels} {x} same less blocks h = record {
    deed = h.deed;
    world = h.world;
    stands = h.stands;
    steps = omega (arith, h.steps, less);
    comes = λ model. comes_as start start' h.deed result (core new) h.world same (h.comes (subst (λ (b : Blocks D G). IsTrue (suits G (device_of (store_of b)))) (sym blocks) model));
    heard = h.heard;
    cause = subst (λ (b : Blocks D G). HasRisenBy h.deed.failures (G.failures (device_of (store_of b))) (G.failures (device new))) blocks h.cause;
    keeps = λ model. subst (λ (b : Blocks D G). KeepsAndWears G x.maps h.world.maps (device_of (store_of b)) (device new) h.deed.saves h.deed.wear) blocks (h.keeps (subst (λ (b : Blocks D G). IsTrue (suits G (device_of (store_of b)))) (sym blocks) model));
  }
