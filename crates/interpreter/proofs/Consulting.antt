-- Calls of the block words within a line.
use Rattle.std.proofs.Common.{◌≡◌, ℕ, ◌≤◌, true, false, IsTrue, List, [], Option, Result, Ok, Err, refl, sym, ap, subst, ◌∙◌, arith}
use Rattle.sector_disk.specs.Disk.{Image, MayLeave}
use Rattle.sector_disk.specs.declared.device.SectorDevice.{Ghosts}
use Rattle.journal.specs.Store.{device_of}
use Rattle.journal.specs.Suits.{suits}
use Rattle.block_words.specs.declared.buffered_blocks.Blocks.{Blocks}
use Rattle.block_words.specs.Words.{Wear, no_wear, Answer, Save}
use Rattle.block_words.specs.Parts.{store_of}
use Rattle.cell_machine.specs.Fault.{Faults}
use Rattle.cell_machine.specs.Frames.{Core, Level}
use Rattle.cell_machine.specs.Value.{Outcome, Did, Ends}
use Rattle.interpreter.specs.declared.fault.Fault.{Fault}
use Rattle.interpreter.specs.declared.forth.Forth.{Forth}
use Rattle.interpreter.specs.Deeds.{Deed, asking, then, after}
use Rattle.interpreter.specs.State.{World, Run, with_run}
use Rattle.interpreter.specs.Stops.{fault_of}
use Rattle.interpreter.specs.Promise.{HasRisenBy}
use Rattle.interpreter.specs.Representation.{core, device, Represents, RepresentsAfter}
use Rattle.interpreter.specs.ServiceContract.{Comes, Gives as Altering, Hands, Handed, Altered, KeepsAndWears, Printed, Heard, Lasts, LastsAlone, Consulted, Ran, stopped}
use Rattle.interpreter.specs.declared.fault.Stop.{Stop}
use Rattle.block_words.proofs.Counted.{risen_then}
use Rattle.interpreter.proofs.Then.{comes_then, heard_none, heard_then, maps_then}
use Rattle.interpreter.specs.declared.terminal.Terminal.{Ghosts as TerminalGhosts}
use Rattle.std.proofs.KnownBytes.{Consumes-nil, Appends-nil}
use Rattle.std.specs.Prelude.{IsOk, OnOk}
use Rattle.interpreter.proofs.Running.{OnlyNow, comes_as, maps_same, no_calls, none_failed}
use Rattle.interpreter.proofs.Deeds.{before-nothing, after-nothing}

-- ---- what follows a value that was handed on

comes_handed : {B : Type 0} (start : Run → (B → Core → World → Outcome World) → Outcome World) (go : B → Core → World → Outcome World) (v : B) (answers : List Answer) (n : ℕ) (wear : Wear) (saves : List Save) (mid later : Core) (w y : World) (result : Result (Unit {0}) Fault)
    → Hands start (asking answers n wear saves) (Ok v) mid w → Altering (λ r. go v mid (with_run r w)) result later y → Comes (λ r. start r go) (asking answers n wear saves) (stopped result) later y
comes_handed start go v answers n wear saves mid later w y (Ok _) hands gives = λ r fits. hands r go ∙ gives (after (asking answers n wear saves) r)
comes_handed start go v answers n wear saves mid later w y (Err f) hands gives =
    record { core = gives.0; like = gives.1; ends = λ r fits. hands r go ∙ gives.2 (after (asking answers n wear saves) r) }

-- a result that is Ok
pub ok_of : {A E : Type 0} {P : Type 0} (r : Result A E) → IsOk r → OnOk r P → P
ok_of (Ok v) is h = h
ok_of (Err e) is h = absurd (let no : false ≡ true = is in cc)

module _ {D : Type 0} {G : Ghosts D} where
  same_model : (b c : Blocks D G) → c ≡ b → IsTrue (suits G (device_of (store_of b))) → IsTrue (suits G (device_of (store_of c)))
  same_model b c same model = subst (λ (b : Blocks D G). IsTrue (suits G (device_of (store_of b)))) (sym same) model

  -- a value, and then a part that reaches neither terminal nor device
  pub handed_altered : {B : Type 0} {start : Run → (B → Core → World → Outcome World) → Outcome World} (go : B → Core → World → Outcome World) {v : B} {result : Result (Unit {0}) Fault} {old mid new : Forth D G} {levels : List Level} {x : World}
      → (h : Handed start (Ok v) old mid levels x) → new.blocks ≡ mid.blocks
      → Altered (λ r. go v (core mid) (with_run r h.world)) result mid new levels h.world → Consulted (λ r. start r go) result old new levels x
  handed_altered {B} {start} go {v} {result} {old} {mid} {new} {levels} {x} h blocks a = record {
    answers = h.answers;
    failures = h.failures;
    wear = h.wear;
    saves = h.saves;
    world = a.world;
    stands = a.stands;
    steps = omega (arith, h.steps, a.steps);
    comes = λ model. comes_handed start go v h.answers h.failures h.wear h.saves (core mid) (core new) h.world a.world result (h.hands model) a.gives;
    cause = subst (λ (b : Blocks D G). HasRisenBy h.failures (G.failures (device old)) (G.failures (device_of (store_of b)))) (sym blocks) h.cause;
    keeps = λ model.
        subst (λ (b : Blocks D G). KeepsAndWears G x.maps a.world.maps (device old) (device_of (store_of b)) h.saves h.wear) (sym blocks)
        (subst (λ m. KeepsAndWears G x.maps m (device old) (device mid) h.saves h.wear) (sym a.maps) (h.keeps model));
  }

  -- no value is handed on
  pub handed_failed : {B : Type 0} {start : Run → (B → Core → World → Outcome World) → Outcome World} (go : B → Core → World → Outcome World) {f : Fault} {old new : Forth D G} {levels : List Level} {x : World}
      → Handed start (Err f) old new levels x → Consulted (λ r. start r go) (Err f) old new levels x
  handed_failed {B} {start} go {f} {old} {new} {levels} {x} h = record {
    answers = h.answers;
    failures = h.failures;
    wear = h.wear;
    saves = h.saves;
    world = h.world;
    stands = h.stands;
    steps = h.steps;
    comes = λ model. let k = h.hands model in record { core = k.0; like = k.1; ends = λ r fits. k.2 r go };
    cause = h.cause;
    keeps = h.keeps;
  }

  -- what comes of the line before it may be said otherwise
  pub consulted_as : {start : Run → Outcome World} (start' : Run → Outcome World) {result : Result (Unit {0}) Fault} {mid new : Forth D G} (old : Forth D G) {levels : List Level} {x : World}
      → ((r : Run) → start' r ≡ start r) → mid.steps ≤ old.steps → mid.blocks ≡ old.blocks → Consulted start result mid new levels x → Consulted start' result old new levels x
  consulted_as {start} start' {result} {mid} {new} old {levels} {x} same less blocks h = record {
    answers = h.answers;
    failures = h.failures;
    wear = h.wear;
    saves = h.saves;
    world = h.world;
    stands = h.stands;
    steps = omega (arith, h.steps, less);
    comes = λ model. comes_as start start' (asking h.answers h.failures h.wear h.saves) (stopped result) (core new) h.world same (h.comes (same_model old.blocks mid.blocks blocks model));
    cause = subst (λ (b : Blocks D G). HasRisenBy h.failures (G.failures (device_of (store_of b))) (G.failures (device new))) blocks h.cause;
    keeps = λ model. subst (λ (b : Blocks D G). KeepsAndWears G x.maps h.world.maps (device_of (store_of b)) (device new) h.saves h.wear) blocks (h.keeps (same_model old.blocks mid.blocks blocks model));
  }

-- a part that may reach the device, beside a terminal that it doesn't reach
quiet_printed : (result : Result (Unit {0}) Fault) (o : Option (List ℕ)) → Printed (stopped result) o o [] []
quiet_printed (Ok v) o = Appends-nil o
quiet_printed (Err f) o = Appends-nil o

quiet_stands : {D : Type 0} {G : Ghosts D} (result : Result (Unit {0}) Fault) (forth : Forth D G) (levels : List Level) (x : World) → RepresentsAfter result forth levels x → RepresentsAfter (stopped result) forth levels x
quiet_stands (Ok v) forth levels x s = s
quiet_stands (Err f) forth levels x s = s

module _ {D T : Type 0} {G : Ghosts D} (H : TerminalGhosts T) where
  pub consulted_ran : {start : Run → Outcome World} {result : Result (Unit {0}) Fault} {old new : Forth D G} {levels : List Level} {x : World} (t : T) → Consulted start result old new levels x → Ran H start (stopped result) old new t t levels x
  consulted_ran {start} {result} {old} {new} {levels} {x} t h = record {
    deed = asking h.answers h.failures h.wear h.saves;
    world = h.world;
    stands = quiet_stands result new levels h.world h.stands;
    steps = h.steps;
    comes = h.comes;
    heard = record { given = Consumes-nil (H.input t); at_end = λ no. absurd (let e : false ≡ true = no in cc); printed = quiet_printed result (H.output t); calls = no_calls H (stopped result) t (none_failed result) };
    cause = h.cause;
    keeps = h.keeps;
  }

-- a part that reaches neither, as one that may reach the device
module _ {D : Type 0} (G : Ghosts D) where
  gives_comes : (start : Run → Outcome World) (result : Result (Unit {0}) Fault) (c : Core) (x : World) → Altering start result c x → Comes start (asking [] 0 no_wear []) (stopped result) c x
  gives_comes start (Ok v) c x g = λ r fits. ap start (before-nothing r) ∙ g r ∙ ap (λ r. Did c (with_run r x)) (sym (after-nothing r))
  gives_comes start (Err f) c x g = record { core = g.0; like = g.1; ends = λ r fits. ap start (before-nothing r) ∙ g.2 r ∙ ap (λ r. Ends (Faults (fault_of f)) g.0 (with_run r x)) (sym (after-nothing r)) }

  pub altered_consulted : OnlyNow G → {start : Run → Outcome World} {result : Result (Unit {0}) Fault} (old new : Forth D G) {levels : List Level} {x : World}
      → Represents old levels x → new.blocks ≡ old.blocks → Altered start result old new levels x → Consulted start result old new levels x
  altered_consulted only_now {start} {result} old new {levels} {x} stands blocks h = record {
    answers = [];
    failures = 0;
    wear = no_wear;
    saves = [];
    world = h.world;
    stands = h.stands;
    steps = h.steps;
    comes = λ model. gives_comes start result (core new) h.world h.gives;
    cause = ap (λ (b : Blocks D G). G.failures (device_of (store_of b))) blocks;
    keeps = λ model.
        subst (λ (b : Blocks D G). KeepsAndWears G x.maps h.world.maps (device old) (device_of (store_of b)) [] no_wear) (sym blocks)
        (subst (λ m. KeepsAndWears G x.maps m (device old) (device old) [] no_wear) (sym h.maps) (maps_same G only_now (store_of old.blocks) x.maps (stands.rests.maps model)));
  }

-- a value, and then a part that may reach the terminal
module _ {D T : Type 0} (G : Ghosts D) (H : TerminalGhosts T) (counts_now : (d : D) (t : ℕ) (c : Image) → t ≤ G.time d → MayLeave (G.disk d) c → G.left_since d t c)
    (widens : (d : D) (s t : ℕ) (c : Image) → s ≤ t → G.left_since d t c → G.left_since d s c) (only_now : OnlyNow G) where
  pub handed_ran : {B : Type 0} {start : Run → (B → Core → World → Outcome World) → Outcome World} (go : B → Core → World → Outcome World) {v : B} {result : Result (Unit {0}) Stop} (old mid new : Forth D G) {t u : T} {levels : List Level} {x : World}
      → LastsAlone G (device old) (device mid) → Lasts G H result (device mid) (device new) t u
      → (h : Handed start (Ok v) old mid levels x) → Ran H (λ r. go v (core mid) (with_run r h.world)) result mid new t u levels h.world → Ran H (λ r. start r go) result old new t u levels x
  handed_ran {B} {start} go {v} {result} old mid new {t} {u} {levels} {x} on on_then h k =
      let d : Deed = asking h.answers h.failures h.wear h.saves in
      let heard : Heard H (Ok tt) d t t =
      record { given = Consumes-nil (H.input t); at_end = λ no. absurd (let e : false ≡ true = no in cc); printed = Appends-nil (H.output t); calls = refl } in
      record {
        deed = then d k.deed;
        world = k.world;
        stands = k.stands;
        steps = omega (arith, h.steps, k.steps);
        comes = λ model.
            comes_then (λ r. start r go) (λ r. go v (core mid) (with_run r h.world)) d k.deed (λ r fits. h.hands model r go) (heard_none H heard k.heard) result (core new) k.world
            (k.comes (subst IsTrue (sym on.model) model));
        heard = heard_then H heard k.heard;
        cause = risen_then h.failures k.deed.failures (G.failures (device old)) (G.failures (device mid)) (G.failures (device new)) h.cause k.cause;
        keeps = λ model.
            maps_then G counts_now widens only_now x.maps h.world.maps k.world.maps (device old) (device mid) (device new) h.saves k.deed.saves h.wear k.deed.wear on.time on_then.time
            (h.keeps model) (k.keeps (subst IsTrue (sym on.model) model));
      }
