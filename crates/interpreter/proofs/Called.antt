-- Calls of the block words, in any run.
use Rattle.std.proofs.Common.{◌≡◌, ℕ, ◌+◌, Bool, true, false, List, [], ◌++◌, Result, Ok, Err, IsTrue, ◌≤◌, refl, sym, ap, subst, ◌∙◌, arith}
use Rattle.std.proofs.lemmas.List.{append-nil}
use Rattle.sector_disk.specs.declared.device.SectorDevice.{Ghosts}
use Rattle.journal.specs.Maps.{Maps}
use Rattle.journal.specs.Store.{StandsFor, device_of}
use Rattle.journal.specs.Suits.{suits}
use Rattle.block_buffers.specs.Buffers.{Buffers}
use Rattle.block_words.specs.declared.buffered_blocks.BlockFault.{BlockFault}
use Rattle.block_words.specs.declared.buffered_blocks.BlockFault.TheVariants.{NoBlock, NoBuffer, Device, Closed, Memory}
use Rattle.block_words.specs.declared.buffered_blocks.Blocks.{Blocks}
use Rattle.block_words.specs.Words as words
use Rattle.block_words.specs.Words.{Wear, no_wear, add_wear, Answer, Save, BlockOutcome}
use Rattle.block_words.specs.Parts.{store_of, buffers_of}
use Rattle.block_words.specs.Uses.{with_bytes_left}
use Rattle.block_words.specs.Promises.{TellsFailures}
use Rattle.block_words.specs.Calls.{state, ended, failures_after, counted_after, CallRuns}
use Rattle.cell_machine.specs.Fault.{Faults}
use Rattle.cell_machine.specs.Frames.{Core, Level}
use Rattle.cell_machine.specs.Value.{Outcome, Did, Ends}
use Rattle.cell_machine.specs.Events.{Doing}
use Rattle.stacks.specs.declared.return_stack.Entry.{Entry}
use Rattle.lexicon.specs.declared.language.Lexicon.{Lexicon}
use Rattle.interpreter.specs.declared.forth.Picture.{Picture}
use Rattle.interpreter.specs.declared.place.Place.{Place}
use Rattle.interpreter.specs.State.{World, Run, with_run, block_state, blocks_done, fault_of}
use Rattle.interpreter.specs.Deeds.{Deed, before, after, asking}
use Rattle.interpreter.specs.Promise.{HasRisenBy}
use Rattle.interpreter.specs.Representation.{core, device, Represents, RepresentsWorldIn, RepresentsIn}
use Rattle.interpreter.specs.ServiceContract.{KeepsAndWears, Handed, Consulted, Altered, Lasts, LastsAlone, stopped}
use Rattle.interpreter.specs.declared.terminal.Terminal.{Ghosts as TerminalGhosts}
use Rattle.interpreter.specs.declared.fault.Fault.{Fault}
use Rattle.interpreter.specs.Stops as stops
use Rattle.interpreter.specs.declared.forth.Forth.{Forth}
use Rattle.interpreter.proofs.Deeds.{longer-nothing, before-nothing, after-nothing}
use Rattle.interpreter.proofs.Running.{OnlyNow, maps_same, comes_quiet}

-- how many failures this answer counts
abbrev pub failed : {A : Type 0} → Result A BlockFault → ℕ
failed (Err Device) = 1
failed _ = 0

failed_after : {A : Type 0} (result : Result A BlockFault) (n : ℕ) → failures_after result n ≡ n + failed result
failed_after (Ok v) n = omega arith
failed_after (Err NoBlock) n = omega arith
failed_after (Err NoBuffer) n = omega arith
failed_after (Err Device) n = refl
failed_after (Err Closed) n = omega arith
failed_after (Err Memory) n = omega arith

-- the device's count rose by what the call told
failed_cause : {A : Type 0} (result : Result A BlockFault) (a b : ℕ) → b ≡ counted_after result a → HasRisenBy (failed result) a b
failed_cause (Ok v) a b h = h
failed_cause (Err NoBlock) a b h = h
failed_cause (Err NoBuffer) a b h = h
failed_cause (Err Device) a b h = h
failed_cause (Err Closed) a b h = h
failed_cause (Err Memory) a b h = h

-- a call that hands on bytes tells what it told without them
pub tells_left : {A : Type 0} (result : Result A BlockFault) (bytes : List ℕ) (a b : ℕ) → b ≡ counted_after result a → b ≡ counted_after (with_bytes_left result bytes) a
tells_left (Ok v) bytes a b h = h
tells_left (Err NoBlock) bytes a b h = h
tells_left (Err NoBuffer) bytes a b h = h
tells_left (Err Device) bytes a b h = h
tells_left (Err Closed) bytes a b h = h
tells_left (Err Memory) bytes a b h = h

abbrev pub the_error : {A : Type 0} → BlockFault → Result A BlockFault
the_error f = Err f

-- a refusal that is no fault of the device tells none
pub tells_none : (A : Type 0) (f : BlockFault) (a b : ℕ) → f ≡ NoBuffer → b ≡ a → b ≡ counted_after (the_error {A = A} f) a
tells_none A f a b is same = subst (λ f. b ≡ counted_after (the_error {A = A} f) a) (sym is) same

-- what comes of a block word's answer
abbrev pub done_of : {A : Type 0} → Result A BlockFault → Core → World → (A → Core → World → Outcome World) → Outcome World
done_of (Ok v) c x go = go v c x
done_of (Err f) c x go = Ends (Faults (fault_of f)) c x

abbrev pub with_blocks : Maps → Buffers → World → World
with_blocks maps buffers x = record x { maps = maps; buffers = buffers }

-- A call of a block word.
pub record Called {A : Type 0} {D : Type 0} (G : Ghosts D) (word : words.Blocks → BlockOutcome A) (result : Result A BlockFault) (old new : Blocks D G) (space space' : List ℕ) (x : World) : Type 0 where
  pub answers : List Answer
  pub wear : Wear
  pub saves : List Save
  pub maps : Maps
  pub holds : IsTrue (suits G (device_of (store_of new))) → StandsFor (store_of new) maps
  pub runs : IsTrue (suits G (device_of (store_of old))) → (r : Run)
      → word (state x.maps x.buffers space (answers ++ r.answers) r.failures r.wear r.saves)
      ≡ ended result (state maps (buffers_of new) space' r.answers (r.failures + failed result) (add_wear r.wear wear) (r.saves ++ saves))
  pub cause : HasRisenBy (failed result) (G.failures (device_of (store_of old))) (G.failures (device_of (store_of new)))
  pub keeps : IsTrue (suits G (device_of (store_of old))) → KeepsAndWears G x.maps maps (device_of (store_of old)) (device_of (store_of new)) saves wear

blocks_ended : {A : Type 0} (result : Result A BlockFault) (maps : Maps) (buffers : Buffers) (space : List ℕ) (answers : List Answer) (failures : ℕ) (wear : Wear) (saves : List Save) (c : Core) (x : World) (go : A → Core → World → Outcome World)
    → blocks_done (ended result (state maps buffers space answers failures wear saves)) c x go
    ≡ done_of result (record c { space = space }) (record x { maps = maps; buffers = buffers; run = record x.run { answers = answers; failures = failures; wear = wear; saves = saves } }) go
blocks_ended (Ok v) maps buffers space answers failures wear saves c x go = refl
blocks_ended (Err f) maps buffers space answers failures wear saves c x go = refl

same_run : (answers : List Answer) (failures : ℕ) (wear : Wear) (saves : List Save) (r : Run)
    → record (before (asking answers failures wear saves) r) { answers = r.answers; failures = r.failures + failures; wear = add_wear r.wear wear; saves = r.saves ++ saves }
    ≡ after (asking answers failures wear saves) r
same_run answers failures wear saves r =
    ap (λ t. record r { failures = r.failures + failures; wear = add_wear r.wear wear; saves = r.saves ++ saves; terminal = t }) (longer-nothing r.terminal)
    ∙ ap (λ l. record r { failures = r.failures + failures; wear = add_wear r.wear wear; saves = r.saves ++ saves; output = l }) (sym (append-nil r.output))

module _ {A : Type 0} {D : Type 0} {G : Ghosts D} {word : words.Blocks → BlockOutcome A} {result : Result A BlockFault} {old new : Blocks D G} {space space' : List ℕ} {x : World} (h : Called G word result old new space space' x) where
  abbrev pub deed : Deed
  deed = asking h.answers (failed result) h.wear h.saves

  abbrev pub world : World
  world = with_blocks h.maps (buffers_of new) x

  -- what comes of it, in any run
  pub comes_of : IsTrue (suits G (device_of (store_of old))) → (r : Run) (c : Core) (go : A → Core → World → Outcome World)
      → blocks_done (word (block_state (record c { space = space }) (with_run (before deed r) x))) c (with_run (before deed r) x) go
      ≡ done_of result (record c { space = space' }) (with_run (after deed r) world) go
  comes_of model r c go =
      ap (λ o. blocks_done o c (with_run (before deed r) x) go) (h.runs model r)
      ∙ blocks_ended result h.maps (buffers_of new) space' r.answers (r.failures + failed result) (add_wear r.wear h.wear) (r.saves ++ h.saves) c (with_run (before deed r) x) go
      ∙ ap (λ r. done_of result (record c { space = space' }) (with_run r world) go) (same_run h.answers (failed result) h.wear h.saves r)

  pub rests_on : {lexicon : Lexicon} {picture : Picture} {starts : List Place} → RepresentsWorldIn lexicon picture old starts x → RepresentsWorldIn lexicon picture new starts world
  rests_on {lexicon} {picture} {starts} s =
      record { meant = s.meant; held_end = s.held_end; held = s.held; buffers = refl; loads = s.loads; maps = h.holds }

  pub stands_on : {lexicon : Lexicon} {machine : Doing} {returns : List Entry} {picture : Picture} {starts : List Place} {levels : List Level} → RepresentsIn lexicon machine returns picture old starts levels x → RepresentsIn lexicon machine returns picture new starts levels world
  stands_on {lexicon} {machine} {returns} {picture} {starts} {levels} s = record { rests = rests_on s.rests; left = s.left }

module _ {A : Type 0} {D : Type 0} (G : Ghosts D) (word : words.Blocks → BlockOutcome A) (result : Result A BlockFault) (made : Maps → List Save) (old new : Blocks D G) (space space' : List ℕ) where
  pub called : {lexicon : Lexicon} {picture : Picture} {starts : List Place} {x : World}
      → ((m : Maps) → StandsFor (store_of old) m → CallRuns G word result (made m) m (store_of old) (store_of new) (buffers_of old) (buffers_of new) space space')
      → ((m : Maps) → m.closed ≡ true → made m ≡ [])
      → TellsFailures {G = G} result (store_of old) (store_of new)
      → suits G (device_of (store_of new)) ≡ suits G (device_of (store_of old))
      → RepresentsWorldIn lexicon picture old starts x → Called G word result old new space space' x
  called {lexicon} {picture} {starts} {x} runs shut cause same s = pick (suits G (device_of (store_of old))) refl
    where
      pick : (t : Bool) → suits G (device_of (store_of old)) ≡ t → Called G word result old new space space' x
      pick true is =
          let run = runs x.maps (s.maps is) in
          record {
            answers = run.runs.answers;
            wear = run.wear;
            saves = made x.maps;
            maps = run.maps;
            holds = λ m. run.stands;
            runs = λ model r.
                ap (λ b. word (state x.maps b space (run.runs.answers ++ r.answers) r.failures r.wear r.saves)) s.buffers
                ∙ run.runs.same r.answers r.failures r.wear r.saves
                ∙ ap (λ n. ended result (state run.maps (buffers_of new) space' r.answers n (add_wear r.wear run.wear) (r.saves ++ made x.maps))) (failed_after result r.failures);
            cause = failed_cause result _ _ cause;
            keeps = λ model. record { keeps = record { kept = run.kept; shuts = run.shuts; none = shut x.maps; last = run.last }; wears = run.wears };
          }
      pick false is =
          let never : IsTrue (suits G (device_of (store_of old))) → ⊥ = λ h. let no : true ≡ false = sym h ∙ is in cc in
          record {
            answers = [];
            wear = no_wear;
            saves = [];
            maps = x.maps;
            holds = λ m. absurd (never (sym same ∙ m));
            runs = λ model. absurd (never model);
            cause = failed_cause result _ _ cause;
            keeps = λ model. absurd (never model);
          }

-- ---- values handed on without the device

pub handed_quiet : {D : Type 0} (G : Ghosts D) → OnlyNow G → {B : Type 0} {start : Run → (B → Core → World → Outcome World) → Outcome World} {v : B} (old new : Forth D G) {levels : List Level} {x : World}
    → Represents old levels x → Represents new levels x → new.blocks ≡ old.blocks → new.steps ≤ old.steps
    → ((r : Run) (go : B → Core → World → Outcome World) → start r go ≡ go v (core new) (with_run r x))
    → Handed start (Ok v) old new levels x
handed_quiet {D} G only_now {B} {start} {v} old new {levels} {x} was stands blocks less same = record {
  answers = [];
  failures = 0;
  wear = no_wear;
  saves = [];
  world = x;
  stands = stands;
  steps = less;
  hands = λ model r go. ap (λ r. start r go) (before-nothing r) ∙ same r go ∙ ap (λ r. go v (core new) (with_run r x)) (sym (after-nothing r));
  cause = ap (λ (b : Blocks D G). G.failures (device_of (store_of b))) blocks;
  keeps = λ model. subst (λ (b : Blocks D G). KeepsAndWears G x.maps x.maps (device old) (device_of (store_of b)) [] no_wear) (sym blocks) (maps_same G only_now (store_of old.blocks) x.maps (was.rests.maps model));
}

-- ---- services that consult the device

-- from here on it is this word, on this core
abbrev pub Reaches : {A : Type 0} (word : words.Blocks → BlockOutcome A) (c : Core) (x : World) (start : Run → Outcome World) (go : A → Core → World → Outcome World) → Type 0
Reaches {A} word c x start go = (r : Run) → start r ≡ blocks_done (word (block_state c (with_run r x))) c (with_run r x) go

module _ {A : Type 0} {D : Type 0} {G : Ghosts D} {word : words.Blocks → BlockOutcome A} {levels : List Level} {x : World} (old new : Forth D G) (stack space' : List ℕ) where
  pub consulted_well : {start : Run → Outcome World} (go : A → Core → World → Outcome World) (v : A) (h : Called G word (Ok v) old.blocks new.blocks old.space space' x)
      → Reaches word (record (core old) { stack = stack }) x start go → Represents new levels (world h) → new.steps ≤ old.steps
      → ((y : World) → go v (record (core old) { stack = stack; space = space' }) y ≡ Did (core new) y)
      → Consulted start (Ok tt) old new levels x
  consulted_well {start} go v h reaches stands less leaves = record {
    answers = h.answers;
    failures = 0;
    wear = h.wear;
    saves = h.saves;
    world = world h;
    stands = stands;
    steps = less;
    comes = λ model r fits.
        reaches (before (deed h) r) ∙ comes_of h model r (record (core old) { stack = stack }) go ∙ leaves (with_run (after (deed h) r) (world h));
    cause = h.cause;
    keeps = h.keeps;
  }

  pub consulted_failed : {start : Run → Outcome World} (go : A → Core → World → Outcome World) (f : BlockFault) (found : Fault) (h : Called G word (Err f) old.blocks new.blocks old.space space' x)
      → Reaches word (record (core old) { stack = stack }) x start go → RepresentsWorldIn new.lexicon new.picture new.blocks new.loads (world h) → new.steps ≤ old.steps
      → space' ≡ new.space → stops.fault_of found ≡ fault_of f
      → Consulted start (Err found) old new levels x
  consulted_failed {start} go f found h reaches rests less same is = record {
    answers = h.answers;
    failures = failed {A = A} (Err f);
    wear = h.wear;
    saves = h.saves;
    world = world h;
    stands = rests;
    steps = less;
    comes = λ model. record {
      core = record (core old) { stack = stack; space = space' };
      like = same;
      ends = λ r fits.
          reaches (before (deed h) r) ∙ comes_of h model r (record (core old) { stack = stack }) go
          ∙ ap (λ f. Ends (Faults f) (record (core old) { stack = stack; space = space' }) (with_run (after (deed h) r) (world h))) (sym is);
    };
    cause = h.cause;
    keeps = h.keeps;
  }

-- one that never reaches it
pub consulted_quiet : {D : Type 0} (G : Ghosts D) → OnlyNow G → {start : Run → Outcome World} {result : Result (Unit {0}) Fault} (old new : Forth D G) {levels : List Level} {x : World}
    → Represents old levels x → new.blocks ≡ old.blocks → Altered start result old new levels x → Consulted start result old new levels x
consulted_quiet {D} G only_now {start} {result} old new {levels} {x} stands blocks h = record {
  answers = [];
  failures = 0;
  wear = no_wear;
  saves = [];
  world = h.world;
  stands = h.stands;
  steps = h.steps;
  comes = λ model. comes_quiet start result (core new) h.world h.gives;
  cause = ap (λ (b : Blocks D G). G.failures (device_of (store_of b))) blocks;
  keeps = λ model.
      subst (λ (b : Blocks D G). KeepsAndWears G x.maps h.world.maps (device old) (device_of (store_of b)) [] no_wear) (sym blocks)
      (subst (λ m. KeepsAndWears G x.maps m (device old) (device old) [] no_wear) (sym h.maps) (maps_same G only_now (store_of old.blocks) x.maps (stands.rests.maps model)));
}

-- ---- what consults the device, as a part of a line

pub lasts_alone : {D T : Type 0} (G : Ghosts D) (H : TerminalGhosts T) (result : Result (Unit {0}) Fault) (old new : D) (t : T) → LastsAlone G old new → Lasts G H (stopped result) old new t t
lasts_alone {D} {T} G H (Ok v) old new t h =
    record { time = h.time; model = h.model; device_failures = h.failures; terminal_failures = refl; no_more = omega arith; same = refl }
lasts_alone {D} {T} G H (Err f) old new t h =
    record { time = h.time; model = h.model; device_failures = h.failures; terminal_failures = refl; no_more = omega arith; same = refl }

-- ---- what a value is handed to

module _ {D : Type 0} {G : Ghosts D} {B : Type 0} {start : Run → (B → Core → World → Outcome World) → Outcome World} where
  -- a fault ends the whole
  pub handed_fault : {C : Type 0} {f : Fault} {start' : Run → (C → Core → World → Outcome World) → Outcome World} {old new : Forth D G} {levels : List Level} {x : World}
      → (k : (C → Core → World → Outcome World) → B → Core → World → Outcome World) → ((r : Run) (go : C → Core → World → Outcome World) → start' r go ≡ start r (k go))
      → Handed start (Err f) old new levels x → Handed start' (Err f) old new levels x
  handed_fault {C} {f} {start'} {old} {new} {levels} {x} k same h = record {
    answers = h.answers;
    failures = h.failures;
    wear = h.wear;
    saves = h.saves;
    world = h.world;
    stands = h.stands;
    steps = h.steps;
    hands = λ model.
        let q = h.hands model in
        (q.0, q.1, λ r go. same (before (asking h.answers h.failures h.wear h.saves) r) go ∙ q.2 r (k go));
    cause = h.cause;
    keeps = h.keeps;
  }

  -- the value is another one
  pub handed_value : {C : Type 0} {v : B} {w : C} {start' : Run → (C → Core → World → Outcome World) → Outcome World} {old new : Forth D G} {levels : List Level} {x : World}
      → (k : (C → Core → World → Outcome World) → B → Core → World → Outcome World) → ((r : Run) (go : C → Core → World → Outcome World) → start' r go ≡ start r (k go))
      → (h : Handed start (Ok v) old new levels x)
      → ((r : Run) (go : C → Core → World → Outcome World) → k go v (core new) (with_run r h.world) ≡ go w (core new) (with_run r h.world))
      → Handed start' (Ok w) old new levels x
  handed_value {C} {v} {w} {start'} {old} {new} {levels} {x} k same h gives = record {
    answers = h.answers;
    failures = h.failures;
    wear = h.wear;
    saves = h.saves;
    world = h.world;
    stands = h.stands;
    steps = h.steps;
    hands = λ model r go.
        same (before (asking h.answers h.failures h.wear h.saves) r) go ∙ h.hands model r (k go) ∙ gives (after (asking h.answers h.failures h.wear h.saves) r) go;
    cause = h.cause;
    keeps = h.keeps;
  }

  -- it is handed on over another data space
  pub handed_moved : {C : Type 0} {v : B} {w : C} {start' : Run → (C → Core → World → Outcome World) → Outcome World} {old mid : Forth D G} {levels : List Level} {x : World} (space : List ℕ)
      → (k : (C → Core → World → Outcome World) → B → Core → World → Outcome World) → ((r : Run) (go : C → Core → World → Outcome World) → start' r go ≡ start r (k go))
      → (h : Handed start (Ok v) old mid levels x)
      → ((r : Run) (go : C → Core → World → Outcome World) → k go v (core mid) (with_run r h.world) ≡ go w (record (core mid) { space = space }) (with_run r h.world))
      → Handed start' (Ok w) old (record mid { space = space }) levels x
  handed_moved {C} {v} {w} {start'} {old} {mid} {levels} {x} space k same h gives = record {
    answers = h.answers;
    failures = h.failures;
    wear = h.wear;
    saves = h.saves;
    world = h.world;
    stands = h.stands;
    steps = h.steps;
    hands = λ model r go.
        same (before (asking h.answers h.failures h.wear h.saves) r) go ∙ h.hands model r (k go) ∙ gives (after (asking h.answers h.failures h.wear h.saves) r) go;
    cause = h.cause;
    keeps = h.keeps;
  }

  -- or refused
  pub handed_refused : {C : Type 0} {v : B} {f : Fault} {start' : Run → (C → Core → World → Outcome World) → Outcome World} {old new : Forth D G} {levels : List Level} {x : World}
      → (k : (C → Core → World → Outcome World) → B → Core → World → Outcome World) → ((r : Run) (go : C → Core → World → Outcome World) → start' r go ≡ start r (k go))
      → (h : Handed start (Ok v) old new levels x)
      → ((r : Run) (go : C → Core → World → Outcome World) → k go v (core new) (with_run r h.world) ≡ Ends (Faults (stops.fault_of f)) (core new) (with_run r h.world))
      → Handed start' (Err f) old new levels x
  handed_refused {C} {v} {f} {start'} {old} {new} {levels} {x} k same h refuses = record {
    answers = h.answers;
    failures = h.failures;
    wear = h.wear;
    saves = h.saves;
    world = h.world;
    stands = h.stands.rests;
    steps = h.steps;
    hands = λ model. (
      core new,
      refl,
      λ r go. same (before (asking h.answers h.failures h.wear h.saves) r) go ∙ h.hands model r (k go) ∙ refuses (after (asking h.answers h.failures h.wear h.saves) r) go,
    );
    cause = h.cause;
    keeps = h.keeps;
  }

-- nothing is handed on, and nothing was reached
pub handed_none : {D : Type 0} (G : Ghosts D) → OnlyNow G → {B : Type 0} {start : Run → (B → Core → World → Outcome World) → Outcome World} {f : Fault} (old : Forth D G) {levels : List Level} {x : World}
    → Represents old levels x
    → ((r : Run) (go : B → Core → World → Outcome World) → start r go ≡ Ends (Faults (stops.fault_of f)) (core old) (with_run r x))
    → Handed start (Err f) old old levels x
handed_none {D} G only_now {B} {start} {f} old {levels} {x} stands same = record {
  answers = [];
  failures = 0;
  wear = no_wear;
  saves = [];
  world = x;
  stands = stands.rests;
  steps = omega arith;
  hands = λ model. (core old, refl, λ r go. ap (λ r. start r go) (before-nothing r) ∙ same r go ∙ ap (λ r. Ends (Faults (stops.fault_of f)) (core old) (with_run r x)) (sym (after-nothing r)));
  cause = refl;
  keeps = λ model. maps_same G only_now (store_of old.blocks) x.maps (stands.rests.maps model);
}
