-- The words, case by case.
use Rattle.std.proofs.Common.{◌≡◌, ℕ, ◌+◌, Bool, true, false, List, [], ◌∷◌, ◌++◌, length, Option, Some, None, Result, Ok, Err, refl, sym, ◌∙◌, ap, subst}
use Rattle.std.specs.Prelude.{IfOk, OnOk, OnErr, IsErrOf, nat_lt, replicate}
use Rattle.std.proofs.lemmas.List.{append-nil}
use Rattle.sector_disk.specs.Disk.{Image, MayLeave}
use Rattle.sector_disk.specs.Moments.{Elapses, LeavesOnly}
use Rattle.sector_disk.proofs.Moments.{leaves_then}
use Rattle.sector_disk.specs.declared.device.SectorDevice.{Ghosts}
use Rattle.journal.specs.declared.store.StoreFault.{StoreFault}
use Rattle.journal.specs.declared.store.StoreFault.TheVariants.{Device as DeviceRefuses, Closed as IsClosed}
use Rattle.journal.specs.BySize.{Means}
use Rattle.data_space.specs.Space.{buffer_at, buffer_bytes, with_bytes}
use Rattle.journal.specs.Maps.{Maps, contents, shut}
use Rattle.block_buffers.specs.declared.buffers.Assigned.{Assigned}
use Rattle.block_buffers.specs.Buffers.{Buffers, assigned, oldest, slot_for, placed, slot_in, touched_if}
use Rattle.block_words.specs.declared.buffered_blocks.BlockFault.{BlockFault}
use Rattle.block_words.specs.declared.buffered_blocks.BlockFault.TheVariants.{NoBlock, Device, Closed, Memory}
use Rattle.block_words.specs.Words.{Answer, Well, Failed, Save, Wear, no_wear, add_wear, worn, read_wear, spill_wear, Blocks, BlockOutcome, Gives, Fails, spill_if, spill_oldest, open_store, device_call, answered, first_answer, give_buffer, assign, block, buffer, source}
use Rattle.block_words.specs.Rooms.{spilled_if, room_made, is_updated, room_wear}
use Rattle.block_words.specs.Faults.{of_store}
use Rattle.block_words.specs.Calls.{state, ended, failures_after, WordRuns, WearsAtMost, CallKeeps, CallLeaves, CallRuns}
use Rattle.block_words.proofs.Worn.{none_more, wear_assoc, wears_none, wears_then}
use Rattle.journal.specs.declared.store.Store.{Store}
use Rattle.journal.specs.Store.{MeansBy, StandsFor, device_of, closed_of}

abbrev pub room_answers : Bool → List Answer → List Answer
room_answers true rest = Well ∷ rest
room_answers false rest = rest

room_append : (t : Bool) (a rest : List Answer) → room_answers t a ++ rest ≡ room_answers t (a ++ rest)
room_append true a rest = refl
room_append false a rest = refl

if_ok : (t : Bool) (x : Assigned) (go : Blocks → BlockOutcome ℕ) (m : Maps) (b : Buffers) (sp : List ℕ) (rest : List Answer) (f : ℕ) (was : Wear) (sv : List Save)
    → spill_if t x (state m b sp (room_answers t rest) f was sv) go ≡ go (state (spilled_if t x sp m) b sp rest f (add_wear was (room_wear t)) sv)
if_ok true x go m b sp rest f was sv = refl
if_ok false x go m b sp rest f was sv = ap (λ w. go (state m b sp rest f w sv)) (sym (none_more was))

room_ok : (o : Option Assigned) (go : Blocks → BlockOutcome ℕ) (m : Maps) (b : Buffers) (sp : List ℕ) (rest : List Answer) (f : ℕ) (was : Wear) (sv : List Save)
    → spill_oldest o (state m b sp (room_answers (is_updated o) rest) f was sv) go ≡ go (state (room_made o sp m) b sp rest f (add_wear was (room_wear (is_updated o))) sv)
room_ok None go m b sp rest f was sv = ap (λ w. go (state m b sp rest f w sv)) (sym (none_more was))
room_ok (Some x) go m b sp rest f was sv = if_ok x.updated x go m b sp rest f was sv

room_failed : (o : Option Assigned) (go : Blocks → BlockOutcome ℕ) (m : Maps) (b : Buffers) (sp : List ℕ) (rest : List Answer) (f : ℕ) (was : Wear) (sv : List Save) → is_updated o ≡ true
    → spill_oldest o (state m b sp (Failed ∷ rest) f was sv) go ≡ Fails Device (state (shut m) b sp rest (f + 1) (add_wear was spill_wear) sv)
room_failed None go m b sp rest f was sv is = cc
room_failed (Some x) go m b sp rest f was sv is = ap (λ t. spill_if t x (state m b sp (Failed ∷ rest) f was sv) go) is

pub room_saved : (o : Option Assigned) (sp : List ℕ) (m : Maps) → (room_made o sp m).saved ≡ m.saved
room_saved None sp m = refl
room_saved (Some x) sp m = pick x.updated
  where
    pick : (t : Bool) → (spilled_if t x sp m).saved ≡ m.saved
    pick true = refl
    pick false = refl

pub room_closed : (o : Option Assigned) (sp : List ℕ) (m : Maps) → (room_made o sp m).closed ≡ m.closed
room_closed None sp m = refl
room_closed (Some x) sp m = pick x.updated
  where
    pick : (t : Bool) → (spilled_if t x sp m).closed ≡ m.closed
    pick true = refl
    pick false = refl

module _ (u : ℕ) (bytes : List ℕ) (m : Maps) (b : Buffers) (sp : List ℕ) where
  pub assign_device : is_updated (oldest b) ≡ true → WordRuns (assign u bytes) (Err Device) spill_wear [] m (shut m) b b sp sp
  assign_device is = record {
    answers = Failed ∷ [];
    same = λ rest f was sv.
        room_failed (oldest b) (λ s. answered (first_answer s.answers) s (give_buffer u bytes) (λ s. Fails Memory s)) m b sp rest f was sv is
        ∙ ap (λ l. Fails Device (state (shut m) b sp rest (f + 1) (add_wear was spill_wear) l)) (sym (append-nil sv));
  }

  pub assign_memory : (b' : Buffers) (sp' : List ℕ) → b' ≡ b → sp' ≡ sp → WordRuns (assign u bytes) (Err Memory) (room_wear (is_updated (oldest b))) [] m (room_made (oldest b) sp m) b b' sp sp'
  assign_memory b' sp' same same_space = record {
    answers = room_answers (is_updated (oldest b)) (Failed ∷ []);
    same = λ rest f was sv.
        ap (λ a. assign u bytes (state m b sp a f was sv)) (room_append (is_updated (oldest b)) (Failed ∷ []) rest)
        ∙ room_ok (oldest b) (λ s. answered (first_answer s.answers) s (give_buffer u bytes) (λ s. Fails Memory s)) m b sp (Failed ∷ rest) f was sv
        ∙ (λ t. Fails Memory (state (room_made (oldest b) sp m) (sym same t) (sym same_space t) rest f (add_wear was (room_wear (is_updated (oldest b)))) (sym (append-nil sv) t)));
  }

  pub assign_given : (slot at : ℕ) (b' : Buffers) (sp' : List ℕ) → slot ≡ slot_for b → at ≡ buffer_at slot → b' ≡ placed b u → sp' ≡ with_bytes sp (buffer_at slot) bytes
      → WordRuns (assign u bytes) (Ok at) (room_wear (is_updated (oldest b))) [] m (room_made (oldest b) sp m) b b' sp sp'
  assign_given slot at b' sp' is_slot is_at is_b is_sp = record {
    answers = room_answers (is_updated (oldest b)) (Well ∷ []);
    same = λ rest f was sv.
        ap (λ a. assign u bytes (state m b sp a f was sv)) (room_append (is_updated (oldest b)) (Well ∷ []) rest)
        ∙ room_ok (oldest b) (λ s. answered (first_answer s.answers) s (give_buffer u bytes) (λ s. Fails Memory s)) m b sp (Well ∷ rest) f was sv
        ∙ (λ t. Gives (sym (is_at ∙ ap buffer_at is_slot) t) (state (room_made (oldest b) sp m) (sym is_b t) (sym (is_sp ∙ ap (λ k. with_bytes sp (buffer_at k) bytes) is_slot) t) rest f (add_wear was (room_wear (is_updated (oldest b)))) (sym (append-nil sv) t)));
  }

  pub assign_filled : (r : Result ℕ BlockFault) (b' : Buffers) (sp' : List ℕ) → IfOk r (λ at. at ≡ buffer_at (slot_for b)) → OnOk r (b' ≡ placed b u)
      → OnOk r (sp' ≡ with_bytes sp (buffer_at (slot_for b)) bytes) → OnErr r (b' ≡ b) → OnErr r (sp' ≡ sp) → OnErr r (IsErrOf r Memory)
      → WordRuns (assign u bytes) r (room_wear (is_updated (oldest b))) [] m (room_made (oldest b) sp m) b b' sp sp'
  assign_filled (Ok at) b' sp' is_at is_b is_sp same same_space fault = assign_given (slot_for b) at b' sp' refl is_at is_b is_sp
  assign_filled (Err e) b' sp' is_at is_b is_sp same same_space fault =
      subst (λ (e : BlockFault). WordRuns (assign u bytes) (Err e) (room_wear (is_updated (oldest b))) [] m (room_made (oldest b) sp m) b b' sp sp') (let is : Memory ≡ e = cc in is) (assign_memory b' sp' same same_space)

module _ (u : ℕ) (m : Maps) (b : Buffers) (sp : List ℕ) where
  pub block_no : nat_lt u (length m.saved) ≡ false → WordRuns (block u) (Err NoBlock) no_wear [] m m b b sp sp
  block_no is = record { answers = []; same = λ rest f was sv. rw is ((λ t. Fails NoBlock (state m b sp rest f (sym (none_more was) t) (sym (append-nil sv) t)))) }

  pub block_touched : nat_lt u (length m.saved) ≡ true → (o : Option Assigned) (slot at : ℕ) (b' : Buffers) → assigned b.list u ≡ o → Some slot ≡ slot_in o
      → at ≡ buffer_at slot → b' ≡ touched_if b o → WordRuns (block u) (Ok at) no_wear [] m m b b' sp sp
  block_touched is None slot at b' found has is_at is_b = absurd (let no : Some slot ≡ None = has in cc)
  block_touched is (Some x) slot at b' found has is_at is_b = record {
    answers = [];
    same = λ rest f was sv.
        let here : slot ≡ x.slot = let e : Some slot ≡ Some x.slot = has in cc in
        rw (is, found) (λ t. Gives (sym (is_at ∙ ap buffer_at here) t) (state m (sym is_b t) sp rest f (sym (none_more was) t) (sym (append-nil sv) t)));
  }

  pub block_closed : nat_lt u (length m.saved) ≡ true → assigned b.list u ≡ None → m.closed ≡ true → WordRuns (block u) (Err Closed) no_wear [] m m b b sp sp
  block_closed is none shut_now = record { answers = []; same = λ rest f was sv. rw (is, none) (ap (λ t. open_store t (state m b sp rest f was sv) (λ s. device_call (worn read_wear s) (λ s. assign u (contents s.maps u) s) (λ s. Fails Device s))) shut_now ∙ (λ t. Fails Closed (state m b sp rest f (sym (none_more was) t) (sym (append-nil sv) t)))) }

  pub block_failed : nat_lt u (length m.saved) ≡ true → assigned b.list u ≡ None → m.closed ≡ false → WordRuns (block u) (Err Device) read_wear [] m m b b sp sp
  block_failed is none is_open = record { answers = Failed ∷ []; same = λ rest f was sv. rw (is, none) (ap (λ t. open_store t (state m b sp (Failed ∷ rest) f was sv) (λ s. device_call (worn read_wear s) (λ s. assign u (contents s.maps u) s) (λ s. Fails Device s))) is_open ∙ (λ t. Fails Device (state m b sp rest (f + 1) (add_wear was read_wear) (sym (append-nil sv) t)))) }

  pub block_read : nat_lt u (length m.saved) ≡ true → assigned b.list u ≡ None → m.closed ≡ false
      → (r : Result ℕ BlockFault) (wear : Wear) (bytes : List ℕ) (m' : Maps) (b' : Buffers) (sp' : List ℕ) → bytes ≡ contents m u
      → WordRuns (assign u bytes) r wear [] m m' b b' sp sp' → WordRuns (block u) r (add_wear read_wear wear) [] m m' b b' sp sp'
  block_read is none is_open r wear bytes m' b' sp' same w = record {
    answers = Well ∷ w.answers;
    same = λ rest f was sv. rw (is, none) (ap (λ t. open_store t (state m b sp (Well ∷ (w.answers ++ rest)) f was sv) (λ s. device_call (worn read_wear s) (λ s. assign u (contents s.maps u) s) (λ s. Fails Device s))) is_open ∙ ap (λ x. assign u x (state m b sp (w.answers ++ rest) f (add_wear was read_wear) sv)) (sym same) ∙ w.same rest f (add_wear was read_wear) sv
        ∙ (λ t. ended r (state m' b' sp' rest (failures_after r f) (wear_assoc was read_wear wear t) (sv ++ []))));
  }

  pub buffer_blank : nat_lt u (length m.saved) ≡ true → assigned b.list u ≡ None → m.closed ≡ false
      → (r : Result ℕ BlockFault) (wear : Wear) (m' : Maps) (b' : Buffers) (sp' : List ℕ)
      → WordRuns (assign u (replicate 1024 32)) r wear [] m m' b b' sp sp' → WordRuns (buffer u) r wear [] m m' b b' sp sp'
  buffer_blank is none is_open r wear m' b' sp' w = record {
    answers = w.answers;
    same = λ rest f was sv. rw (is, none) (ap (λ t. open_store t (state m b sp (w.answers ++ rest) f was sv) (λ s. assign u (replicate 1024 32) s)) is_open ∙ w.same rest f was sv);
  }

module _ (u : ℕ) (m : Maps) (b : Buffers) (sp : List ℕ) (is : nat_lt u (length m.saved) ≡ true) where
  pub source_found : (o : Option Assigned) (slot : ℕ) (bytes : List ℕ) → assigned b.list u ≡ o → Some slot ≡ slot_in o → bytes ≡ buffer_bytes sp slot
      → WordRuns (source u) (Ok bytes) no_wear [] m m b b sp sp
  source_found None slot bytes found has same = absurd (let no : Some slot ≡ None = has in cc)
  source_found (Some x) slot bytes found has same = record {
    answers = [];
    same = λ rest f was sv.
        let here : slot ≡ x.slot = let e : Some slot ≡ Some x.slot = has in cc in
        rw (is, found) (λ t. Gives (sym (same ∙ ap (buffer_bytes sp) here) t) (state m b sp rest f (sym (none_more was) t) (sym (append-nil sv) t)));
  }

  pub source_closed : assigned b.list u ≡ None → m.closed ≡ true → WordRuns (source u) (Err Closed) no_wear [] m m b b sp sp
  source_closed none shut_now = record { answers = []; same = λ rest f was sv. rw (is, none) (ap (λ t. open_store t (state m b sp rest f was sv) (λ s. device_call (worn read_wear s) (λ s. Gives (contents s.maps u) s) (λ s. Fails Device s))) shut_now ∙ (λ t. Fails Closed (state m b sp rest f (sym (none_more was) t) (sym (append-nil sv) t)))) }

  module _ (none : assigned b.list u ≡ None) (is_open : m.closed ≡ false) where
    pub source_read : (bytes : List ℕ) → bytes ≡ contents m u → WordRuns (source u) (Ok bytes) read_wear [] m m b b sp sp
    source_read bytes same = record {
      answers = Well ∷ [];
      same = λ rest f was sv.
          rw (is, none) (ap (λ t. open_store t (state m b sp (Well ∷ rest) f was sv) (λ s. device_call (worn read_wear s) (λ s. Gives (contents s.maps u) s) (λ s. Fails Device s))) is_open
          ∙ (λ t. Gives (sym same t) (state m b sp rest f (add_wear was read_wear) (sym (append-nil sv) t))));
    }

    pub source_failed : WordRuns (source u) (Err Device) read_wear [] m m b b sp sp
    source_failed = record {
      answers = Failed ∷ [];
      same = λ rest f was sv.
          rw (is, none) (ap (λ t. open_store t (state m b sp (Failed ∷ rest) f was sv) (λ s. device_call (worn read_wear s) (λ s. Gives (contents s.maps u) s) (λ s. Fails Device s))) is_open
          ∙ (λ t. Fails Device (state m b sp rest (f + 1) (add_wear was read_wear) (sym (append-nil sv) t))));
    }

-- a call that leaves the store as it is
pub keeps_store : {D : Type 0} (G : Ghosts D) (store : Store D G) (m : Maps) → ((d : D) (c : Image) → G.left_since d (G.time d) c → MayLeave (G.disk d) c)
    → StandsFor store m → CallKeeps G m.closed (device_of store) (device_of store) m.saved []
keeps_store G store m only_now stands = record { sectors = refl; leaves = pick m.closed refl }
  where
    pick : (t : Bool) → m.closed ≡ t → CallLeaves G t (device_of store) (device_of store) m.saved []
    pick true is = λ c since. only_now (device_of store) c since
    pick false is = λ c since. stands.left (sym stands.closed ∙ is) c (only_now (device_of store) c since)

-- a call on an open store without a save
pub keeps_saved : {D : Type 0} (G : Ghosts D) (closed : Bool) (old new : D) (saved : List (List ℕ)) → closed ≡ false
    → G.sector_count new ≡ G.sector_count old → LeavesOnly G.time G.left_since old new (Means (G.sector_count old) saved) → CallKeeps G closed old new saved []
keeps_saved G closed old new saved is_open same leaves = record {
  sectors = same;
  leaves = subst (λ t. CallLeaves G t old new saved []) (sym is_open) leaves;
}

pub leaves_saved : {D : Type 0} (G : Ghosts D) (closed : Bool) (old new : D) (saved : List (List ℕ)) → closed ≡ false
    → CallKeeps G closed old new saved [] → LeavesOnly G.time G.left_since old new (Means (G.sector_count old) saved)
leaves_saved G closed old new saved is_open keeps = subst (λ t. CallLeaves G t old new saved []) is_open keeps.leaves

-- two calls that leave the saved blocks
pub saved_then : {D : Type 0} (G : Ghosts D) (a b d : D) (saved : List (List ℕ)) → Elapses G.time G.left_since a b → Elapses G.time G.left_since b d
    → G.sector_count b ≡ G.sector_count a → LeavesOnly G.time G.left_since a b (Means (G.sector_count a) saved)
    → LeavesOnly G.time G.left_since b d (Means (G.sector_count b) saved) → LeavesOnly G.time G.left_since a d (Means (G.sector_count a) saved)
saved_then G a b d saved first then same p q =
    leaves_then G.time G.left_since a b d (Means (G.sector_count a) saved) (Means (G.sector_count b) saved) (Means (G.sector_count a) saved) first then p q
    (λ c x. x) (λ c x. subst (λ n. Means n saved c) same x)

-- A block that has no buffer gets one.
module _ {D : Type 0} (G : Ghosts D) (u : ℕ) (m : Maps) (old new : Store D G) (b b' : Buffers) (sp : List ℕ)
    (is : nat_lt u (length m.saved) ≡ true) (none : assigned b.list u ≡ None) (is_open : m.closed ≡ false) (r r' : Result ℕ BlockFault) (sp' sp'' : List ℕ) (same_r : r ≡ r') (same_sp : sp' ≡ sp'') where
  assign_as : (wear : Wear) (bytes : List ℕ) (m' : Maps) → WordRuns (assign u bytes) r' wear [] m m' b b' sp sp'' → WordRuns (assign u bytes) r wear [] m m' b b' sp sp'
  assign_as wear bytes m' w = record {
    answers = w.answers;
    same = λ rest f was sv.
        w.same rest f was sv
        ∙ (λ t. ended (sym same_r t) (state m' b' (sym same_sp t) rest (failures_after (sym same_r t) f) (add_wear was wear) (sv ++ [])));
  }

  pub buffer_runs : CallRuns G (assign u (replicate 1024 32)) r' [] m old new b b' sp sp'' → CallRuns G (buffer u) r [] m old new b b' sp sp'
  buffer_runs w = record {
    maps = w.maps;
    wear = w.wear;
    runs = buffer_blank u m b sp is none is_open r w.wear w.maps b' sp' (assign_as w.wear (replicate 1024 32) w.maps w.runs);
    stands = w.stands;
    kept = w.kept;
    wears = w.wears;
    shuts = w.shuts;
    last = w.last;
  }

  pub block_runs : (mid : Store D G) (bytes : List ℕ) → bytes ≡ contents m u → WearsAtMost G (device_of old) (device_of mid) read_wear
      → Elapses G.time G.left_since (device_of old) (device_of mid) → Elapses G.time G.left_since (device_of mid) (device_of new)
      → G.sector_count (device_of mid) ≡ G.sector_count (device_of old) → LeavesOnly G.time G.left_since (device_of old) (device_of mid) (MeansBy old m.saved)
      → CallRuns G (assign u bytes) r' [] m mid new b b' sp sp'' → CallRuns G (block u) r [] m old new b b' sp sp'
  block_runs mid bytes same reads first then size leaves w = record {
    maps = w.maps;
    wear = add_wear read_wear w.wear;
    runs = block_read u m b sp is none is_open r w.wear bytes w.maps b' sp' same (assign_as w.wear bytes w.maps w.runs);
    stands = w.stands;
    kept = keeps_saved G m.closed (device_of old) (device_of new) m.saved is_open (w.kept.sectors ∙ size)
        (saved_then G (device_of old) (device_of mid) (device_of new) m.saved first then size leaves (leaves_saved G m.closed (device_of mid) (device_of new) m.saved is_open w.kept));
    wears = wears_then G (device_of old) (device_of mid) (device_of new) read_wear w.wear reads w.wears;
    shuts = w.shuts;
    last = w.last;
  }

-- a word that makes no call of the device
pub still_runs : {A D : Type 0} (G : Ghosts D) (word : Blocks → BlockOutcome A) (r : Result A BlockFault) (m : Maps) (store : Store D G) (b b' : Buffers) (sp sp' : List ℕ)
    → ((d : D) (c : Image) → G.left_since d (G.time d) c → MayLeave (G.disk d) c) → StandsFor store m
    → ((rest : List Answer) (f : ℕ) (was : Wear) (sv : List Save) → word (state m b sp rest f was sv) ≡ ended r (state m b' sp' rest (failures_after r f) was sv))
    → CallRuns G word r [] m store store b b' sp sp'
still_runs G word r m store b b' sp sp' only_now stands h = record {
  maps = m;
  wear = no_wear;
  runs = record {
    answers = [];
    same = λ rest f was sv. h rest f was sv ∙ (λ t. ended r (state m b' sp' rest (failures_after r f) (sym (none_more was) t) (sym (append-nil sv) t)));
  };
  stands = stands;
  kept = keeps_store G store m only_now stands;
  wears = wears_none G (device_of store);
  shuts = λ h. h;
  last = λ _. refl;
}

-- a read that the store refuses
pub refused_runs : {A D : Type 0} (G : Ghosts D) (word : Blocks → BlockOutcome A) (fault : StoreFault) (told : BlockFault) (m : Maps) (old new : Store D G) (b : Buffers) (sp : List ℕ)
    → told ≡ of_store fault → ((d : D) (c : Image) → G.left_since d (G.time d) c → MayLeave (G.disk d) c) → StandsFor old m → StandsFor new m
    → (fault ≡ IsClosed → closed_of old ≡ true) → (fault ≡ IsClosed → new ≡ old) → (fault ≡ DeviceRefuses → closed_of old ≡ false)
    → (m.closed ≡ true → WordRuns word (Err Closed) no_wear [] m m b b sp sp) → (m.closed ≡ false → WordRuns word (Err Device) read_wear [] m m b b sp sp)
    → G.sector_count (device_of new) ≡ G.sector_count (device_of old)
    → (m.closed ≡ false → LeavesOnly G.time G.left_since (device_of old) (device_of new) (MeansBy old m.saved)) → WearsAtMost G (device_of old) (device_of new) read_wear
    → CallRuns G word (Err told) [] m old new b b sp sp
refused_runs {A} {D} G word fault told m old new b sp is only_now was stands shut_before same open_before shut failed size leaves wears =
    subst (λ (f : BlockFault). CallRuns G word (Err f) [] m old new b b sp sp) (sym is) (pick fault shut_before same open_before)
  where
    pick : (f : StoreFault) → (f ≡ IsClosed → closed_of old ≡ true) → (f ≡ IsClosed → new ≡ old) → (f ≡ DeviceRefuses → closed_of old ≡ false) → CallRuns G word (Err (of_store f)) [] m old new b b sp sp
    pick IsClosed before same _ = subst (λ (s : Store D G). CallRuns G word (Err Closed) [] m old s b b sp sp) (sym (same refl)) (record {
      maps = m;
      wear = no_wear;
      runs = shut (was.closed ∙ before refl);
      stands = was;
      kept = keeps_store G old m only_now was;
      wears = wears_none G (device_of old);
      shuts = λ h. h;
      last = λ _. refl;
    })
    pick DeviceRefuses _ _ before = record {
      maps = m;
      wear = read_wear;
      runs = failed (was.closed ∙ before refl);
      stands = stands;
      kept = keeps_saved G m.closed (device_of old) (device_of new) m.saved (was.closed ∙ before refl) size (leaves (was.closed ∙ before refl));
      wears = wears;
      shuts = λ h. h;
      last = λ _. refl;
    }
