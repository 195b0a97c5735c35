-- Saving, case by case.
use Rattle.std.proofs.Common.{◌≡◌, ◌⊎◌, ℕ, zero, suc, ◌+◌, ◌*◌, ◌<◌, ◌≤◌, Bool, true, false, cond, List, [], ◌∷◌, ◌++◌, length, take, drop, Option, Some, None, Result, Ok, Err, inl, refl, sym, ◌∙◌, ap, subst, arith}
use Rattle.std.specs.Prelude.{◌||◌, slice_get, slice_index_or}
use Rattle.journal.specs.declared.store.StoreFault.{StoreFault}
use Rattle.journal.specs.declared.store.StoreFault.TheVariants.{Device as Broken, Closed as Shut}
use Rattle.sector_disk.specs.Disk.{Image}
use Rattle.sector_disk.specs.Moments.{LeavesOnly}
use Rattle.sector_disk.proofs.Moments.{elapses_then, leaves_then}
use Rattle.sector_disk.specs.declared.device.SectorDevice.{Ghosts}
use Rattle.journal.specs.declared.store.Store.{Store}
use Rattle.journal.specs.Calls.{BeginsAtMost, ReadsAtMost}
use Rattle.journal.specs.BySize.{Means}
use Rattle.journal.specs.Layout.{count_below}
use Rattle.recovery.specs.Label.{is_size}
use Rattle.journal.specs.Maps.{Maps, contents, latest, spilled, committed, shut, any_pending}
use Rattle.journal.specs.Costs.{each_reads, each_writes, more_writes, save_syncs, spill_reads, spill_writes}
use Rattle.journal.specs.Store.{Continues, MeansBy, StandsFor, KeepsSaved, SavesAllOrNone, is_pending, pending_count, DeviceBegins, DeviceReads, device_of, disk_of, technique_of, closed_of, blocks_of, by_older}
use Rattle.journal.specs.Technique.{spilled_of}
use Rattle.block_words.specs.Parts.{ChangesAllOrNone}
use Rattle.block_words.specs.Uses.{is_among, is_changed, changed_count}
use Rattle.data_space.specs.Space.{buffer_bytes}
use Rattle.block_buffers.specs.declared.buffers.Assigned.{Assigned}
use Rattle.block_buffers.specs.Buffers.{Buffers, updated_ones}
use Rattle.block_words.specs.declared.buffered_blocks.BlockFault.{BlockFault}
use Rattle.block_words.specs.declared.buffered_blocks.BlockFault.TheVariants.{Device}
use Rattle.block_words.specs.Words.{Answer, Well, Failed, Save, Wear, no_wear, add_wear, spill_wear, commit_wear, pending_number, Blocks, BlockOutcome, Gives, Fails, spill_each, open_store, commit, returned, all_spilled, next_map, save_and}
use Rattle.block_words.specs.Calls.{state, ended, failures_after, WordRuns, WearsAtMost, CallKeeps, CallLeaves, save_begun}
use Rattle.block_words.proofs.Runs.{saved_then}
use Rattle.journal.proofs.Costs.{most_begins, most_reads, spills_begin, spills_read}
use Rattle.block_words.proofs.Worn.{none_more, wear_assoc, spills_wear, spills_counted, commit_wear_if, spills_by, wears_then, pending_same, none_counted}

pub continues_then : {D : Type 0} {G : Ghosts D} (a b d : Store D G) → ((s t : ℕ) (c : Image) → s ≤ t → G.left_since (device_of d) t c → G.left_since (device_of d) s c)
    → Continues a b → Continues b d → Continues a d
continues_then {D} {G} a b d widens first then = record {
  blocks = then.blocks ∙ first.blocks;
  sectors = then.sectors ∙ first.sectors;
  model = then.model ∙ first.model;
  time = elapses_then G.time G.left_since (device_of a) (device_of b) (device_of d) widens first.time then.time;
  failures = omega (arith, first.failures, then.failures);
}

pub spilled_saved : (xs : List Assigned) (sp : List ℕ) (m : Maps) → (all_spilled xs sp m).saved ≡ m.saved
spilled_saved [] sp m = refl
spilled_saved (x ∷ xs) sp m = spilled_saved xs sp (spilled m x.block (buffer_bytes sp x.slot))

pub spilled_closed : (xs : List Assigned) (sp : List ℕ) (m : Maps) → (all_spilled xs sp m).closed ≡ m.closed
spilled_closed [] sp m = refl
spilled_closed (x ∷ xs) sp m = spilled_closed xs sp (spilled m x.block (buffer_bytes sp x.slot))

pub spilled_more : (xs : List Assigned) (i : ℕ) (x : Assigned) (sp : List ℕ) (m : Maps) → slice_get xs i ≡ Some x
    → all_spilled (take (suc i) xs) sp m ≡ spilled (all_spilled (take i xs) sp m) x.block (buffer_bytes sp x.slot)
spilled_more [] i x sp m at = cc
spilled_more (y ∷ xs) zero x sp m at =
    let same : y ≡ x = cc in
    ap (λ (z : Assigned). spilled m z.block (buffer_bytes sp z.slot)) same
spilled_more (y ∷ xs) (suc i) x sp m at = spilled_more xs i x sp (spilled m y.block (buffer_bytes sp y.slot)) at

-- an item between those before it and those after it
pub split_at : (xs : List Assigned) (i : ℕ) (x : Assigned) → slice_get xs i ≡ Some x → xs ≡ take i xs ++ x ∷ drop (suc i) xs
split_at [] i x at = cc
split_at (y ∷ xs) zero x at =
    let same : y ≡ x = cc in
    ap (λ (z : Assigned). z ∷ xs) same
split_at (y ∷ xs) (suc i) x at = ap (λ l. y ∷ l) (split_at xs i x at)

abbrev pub wells : List Assigned → List Answer → List Answer
wells [] rest = rest
wells (x ∷ xs) rest = Well ∷ wells xs rest

wells_append : (xs : List Assigned) (a rest : List Answer) → wells xs a ++ rest ≡ wells xs (a ++ rest)
wells_append [] a rest = refl
wells_append (x ∷ xs) a rest = ap (λ l. Well ∷ l) (wells_append xs a rest)

spill_all : (xs : List Assigned) (go : Blocks → BlockOutcome (Unit {0})) (m : Maps) (b : Buffers) (sp : List ℕ) (rest : List Answer) (f : ℕ) (was : Wear) (sv : List Save)
    → spill_each xs (state m b sp (wells xs rest) f was sv) go ≡ go (state (all_spilled xs sp m) b sp rest f (add_wear was (spills_wear xs)) sv)
spill_all [] go m b sp rest f was sv = ap (λ w. go (state m b sp rest f w sv)) (sym (none_more was))
spill_all (x ∷ xs) go m b sp rest f was sv =
    spill_all xs go (spilled m x.block (buffer_bytes sp x.slot)) b sp rest f (add_wear was spill_wear) sv
    ∙ ap (λ w. go (state (all_spilled (x ∷ xs) sp m) b sp rest f w sv)) (wear_assoc was spill_wear (spills_wear xs))

spill_front : (ys more : List Assigned) (go : Blocks → BlockOutcome (Unit {0})) (m : Maps) (b : Buffers) (sp : List ℕ) (rest : List Answer) (f : ℕ) (was : Wear) (sv : List Save)
    → spill_each (ys ++ more) (state m b sp (wells ys rest) f was sv) go ≡ spill_each more (state (all_spilled ys sp m) b sp rest f (add_wear was (spills_wear ys)) sv) go
spill_front [] more go m b sp rest f was sv = ap (λ w. spill_each more (state m b sp rest f w sv) go) (sym (none_more was))
spill_front (x ∷ xs) more go m b sp rest f was sv =
    spill_front xs more go (spilled m x.block (buffer_bytes sp x.slot)) b sp rest f (add_wear was spill_wear) sv
    ∙ ap (λ w. spill_each more (state (all_spilled (x ∷ xs) sp m) b sp rest f w sv) go) (wear_assoc was spill_wear (spills_wear xs))

abbrev pub one_if : Bool → List Answer
one_if true = Well ∷ []
one_if false = []

commit_ok : (p : Bool) (go : Blocks → BlockOutcome (Unit {0})) (m : Maps) (b : Buffers) (sp : List ℕ) (rest : List Answer) (f : ℕ) (was : Wear) (sv : List Save)
    → commit p (state m b sp (one_if p ++ rest) f was sv) go ≡ go (state (committed m) b sp rest f (add_wear was (commit_wear_if p (pending_number m.pending))) sv)
commit_ok true go m b sp rest f was sv = refl
commit_ok false go m b sp rest f was sv = ap (λ w. go (state (committed m) b sp rest f w sv)) (sym (none_more was))

returned_last : (sv : List Save) (x : Save) → returned (sv ++ x ∷ []) ≡ sv ++ record x { returned = true } ∷ []
returned_last [] x = refl
returned_last (y ∷ []) x = refl
returned_last (y ∷ z ∷ sv) x = ap (λ l. y ∷ l) (returned_last (z ∷ sv) x)

abbrev ending : (Buffers → Buffers) → Blocks → BlockOutcome (Unit {0})
ending change s = Gives tt (record s { buffers = change s.buffers; saves = returned s.saves })

abbrev committing : (Buffers → Buffers) → Blocks → BlockOutcome (Unit {0})
committing change s = commit (any_pending s.maps.pending) s (ending change)

abbrev spilling : (Buffers → Buffers) → Blocks → BlockOutcome (Unit {0})
spilling change s = spill_each (updated_ones s.buffers) (record s { saves = s.saves ++ record { map = next_map s.buffers s.space s.maps; returned = false } ∷ [] }) (committing change)

module _ (change : Buffers → Buffers) (m : Maps) (b : Buffers) (sp : List ℕ) (is_open : m.closed ≡ false) where
  pub save_ok : WordRuns (save_and change) (Ok tt) (add_wear (spills_wear (updated_ones b)) (commit_wear_if (any_pending (all_spilled (updated_ones b) sp m).pending) (pending_number (all_spilled (updated_ones b) sp m).pending)))
      (record { map = next_map b sp m; returned = true } ∷ []) m (committed (all_spilled (updated_ones b) sp m)) b (change b) sp sp
  save_ok =
      let xs = updated_ones b in
      let all = all_spilled xs sp m in
      record {
        answers = wells xs (one_if (any_pending all.pending));
        same = λ rest f was sv.
            ap (λ a. save_and change (state m b sp a f was sv)) (wells_append xs (one_if (any_pending all.pending)) rest)
            ∙ ap (λ t. open_store t (state m b sp (wells xs (one_if (any_pending all.pending) ++ rest)) f was sv) (spilling change)) is_open
            ∙ spill_all xs (committing change) m b sp (one_if (any_pending all.pending) ++ rest) f was (sv ++ record { map = next_map b sp m; returned = false } ∷ [])
            ∙ commit_ok (any_pending all.pending) (ending change) all b sp rest f (add_wear was (spills_wear xs)) (sv ++ record { map = next_map b sp m; returned = false } ∷ [])
            ∙ (λ t. Gives tt
            (state (committed all) (change b) sp rest f (wear_assoc was (spills_wear xs) (commit_wear_if (any_pending all.pending) (pending_number all.pending)) t)
            (returned_last sv (record { map = next_map b sp m; returned = false }) t)));
      }

  pub save_uncommitted : any_pending (all_spilled (updated_ones b) sp m).pending ≡ true
      → WordRuns (save_and change) (Err Device) (add_wear (spills_wear (updated_ones b)) (commit_wear (pending_number (all_spilled (updated_ones b) sp m).pending)))
      (record { map = next_map b sp m; returned = false } ∷ []) m (shut (all_spilled (updated_ones b) sp m)) b b sp sp
  save_uncommitted some =
      let xs = updated_ones b in
      let all = all_spilled xs sp m in
      record {
        answers = wells xs (Failed ∷ []);
        same = λ rest f was sv.
            ap (λ a. save_and change (state m b sp a f was sv)) (wells_append xs (Failed ∷ []) rest)
            ∙ ap (λ t. open_store t (state m b sp (wells xs (Failed ∷ rest)) f was sv) (spilling change)) is_open
            ∙ spill_all xs (committing change) m b sp (Failed ∷ rest) f was (sv ++ record { map = next_map b sp m; returned = false } ∷ [])
            ∙ ap (λ p. commit p (state all b sp (Failed ∷ rest) f (add_wear was (spills_wear xs)) (sv ++ record { map = next_map b sp m; returned = false } ∷ [])) (ending change)) some
            ∙ ap (λ w. Fails Device (state (shut all) b sp rest (f + 1) w (sv ++ record { map = next_map b sp m; returned = false } ∷ []))) (wear_assoc was (spills_wear xs) (commit_wear (pending_number all.pending)));
      }

  pub save_unspilled : (before : List Assigned) (x : Assigned) (after : List Assigned) → updated_ones b ≡ before ++ x ∷ after
      → WordRuns (save_and change) (Err Device) (add_wear (spills_wear before) spill_wear) (record { map = next_map b sp m; returned = false } ∷ []) m (shut (all_spilled before sp m)) b b sp sp
  save_unspilled before x after split = record {
    answers = wells before (Failed ∷ []);
    same = λ rest f was sv.
        ap (λ a. save_and change (state m b sp a f was sv)) (wells_append before (Failed ∷ []) rest)
        ∙ ap (λ t. open_store t (state m b sp (wells before (Failed ∷ rest)) f was sv) (spilling change)) is_open
        ∙ ap (λ l. spill_each l (state m b sp (wells before (Failed ∷ rest)) f was (sv ++ record { map = next_map b sp m; returned = false } ∷ [])) (committing change)) split
        ∙ spill_front before (x ∷ after) (committing change) m b sp (Failed ∷ rest) f was (sv ++ record { map = next_map b sp m; returned = false } ∷ [])
        ∙ ap (λ w. Fails Device (state (shut (all_spilled before sp m)) b sp rest (f + 1) w (sv ++ record { map = next_map b sp m; returned = false } ∷ []))) (wear_assoc was (spills_wear before) spill_wear);
  }

-- an open store begins a save
pub runs_open : {A : Type 0} {w : Blocks → BlockOutcome A} {m m' : Maps} {b b' : Buffers} {sp sp' : List ℕ} (closed : Bool) → closed ≡ false → (r : Result A BlockFault) (wear : Wear) (s : Save)
    → WordRuns w r wear (s ∷ []) m m' b b' sp sp' → WordRuns w r wear (save_begun closed s.map s.returned) m m' b b' sp sp'
runs_open {A} {w} {m} {m'} {b} {b'} {sp} {sp'} closed is r wear s runs = record {
  answers = runs.answers;
  same = λ rest f was sv.
      runs.same rest f was sv
      ∙ ap (λ t. ended r (state m' b' sp' rest (failures_after r f) (add_wear was wear) (sv ++ save_begun t s.map s.returned))) (sym is);
}

pub keeps_save : {D : Type 0} (G : Ghosts D) (closed : Bool) (old new : D) (saved next : List (List ℕ)) (returned : Bool) → closed ≡ false
    → G.sector_count new ≡ G.sector_count old
    → LeavesOnly G.time G.left_since old new (λ c. Means (G.sector_count old) saved c ⊎ Means (G.sector_count old) next c)
    → (returned ≡ true → (u : ℕ) × (G.time old ≤ u) × (u ≤ G.time new) × ((c : Image) → G.left_since new u c → Means (G.sector_count new) next c))
    → CallKeeps G closed old new saved (save_begun closed next returned)
keeps_save G closed old new saved next returned is same leaves after = record {
  sectors = same;
  leaves = subst (λ t. CallLeaves G t old new saved (save_begun t next returned)) (sym is)
      (leaves, λ r. let b = after r in (b.0, b.1, b.2, λ c since. subst (λ n. Means n next c) same (b.3 c since)));
}

none_at : (p : List (Option (List ℕ))) → any_pending p ≡ false → (b : ℕ) → slice_index_or p b None ≡ None
none_at [] h b = refl
none_at (Some x ∷ p) h b = cc
none_at (None ∷ p) h zero = refl
none_at (None ∷ p) h (suc b) = none_at p h b

not_listed : (t : Bool) (slot : List ℕ) → None ≡ cond t (Some slot) None → t ≡ false
not_listed true slot h = cc
not_listed false slot h = refl

count_below_none : (test : ℕ → Bool) (n : ℕ) → ((b : ℕ) → b < n → test b ≡ false) → count_below test n ≡ 0
count_below_none test zero none = refl
count_below_none test (suc n) none = ap (λ t. cond t (count_below test n + 1) (count_below test n)) (none n (omega arith)) ∙ count_below_none test n (λ b below. none b (omega arith))

-- what a commit has to write is pending
pub some_pending : {D : Type 0} {G : Ghosts D} (store : Store D G) (m : Maps) → StandsFor store m → closed_of store ≡ false → (pending_count store ≡ 0 → ⊥) → any_pending m.pending ≡ true
some_pending {D} {G} store m stands is_open counted = pick (any_pending m.pending) refl
  where
    pick : (t : Bool) → any_pending m.pending ≡ t → any_pending m.pending ≡ true
    pick true is = is
    pick false is = absurd (counted (count_below_none (is_pending store) (blocks_of store)
        (λ b below. not_listed (is_pending store b) (spilled_of (technique_of store) (disk_of store).content b) (sym (none_at m.pending is b) ∙ stands.pending is_open b below))))

pub device_fault : (f : StoreFault) → (f ≡ Shut → ⊥) → f ≡ Broken
device_fault Broken other = refl
device_fault Shut other = absurd (other refl)

-- a spill after others
pub keeps_then_spill : {D : Type 0} (G : Ghosts D) (old mid new : Store D G) (front : List Assigned) (sp : List ℕ) → Continues old mid → Continues mid new
    → ((m : Maps) → StandsFor old m → StandsFor mid (all_spilled front sp m)) → KeepsSaved old mid → KeepsSaved mid new → KeepsSaved old new
keeps_then_spill G old mid new front sp first then stands p q = λ m from is_open.
    saved_then G (device_of old) (device_of mid) (device_of new) m.saved first.time then.time first.sectors (p m from is_open)
    (subst (λ l. LeavesOnly G.time G.left_since (device_of mid) (device_of new) (MeansBy mid l)) (spilled_saved front sp m) (q (all_spilled front sp m) (stands m from) (spilled_closed front sp m ∙ is_open)))

count_below_same : (p q : ℕ → Bool) (n : ℕ) → ((b : ℕ) → p b ≡ q b) → count_below p n ≡ count_below q n
count_below_same p q zero same = refl
count_below_same p q (suc n) same =
    ap (λ t. cond t (count_below p n + 1) (count_below p n)) (same n)
    ∙ ap (λ k. cond (q n) (k + 1) k) (count_below_same p q n same)

-- with nothing updated no more blocks are pending
pub none_left : {D : Type 0} {G : Ghosts D} (old mid : Store D G) (b : Buffers) → updated_ones b ≡ [] → Continues old mid
    → ((u : ℕ) → is_pending mid u ≡ (is_among (updated_ones b) u || is_pending old u)) → pending_count old ≡ 0 → pending_count mid ≡ 0
none_left old mid b none on pending zero_pending =
    ap (λ n. count_below (is_pending mid) n) on.blocks
    ∙ count_below_same (is_pending mid) (is_pending old) (blocks_of old) (λ u. pending u ∙ ap (λ (l : List Assigned). is_among l u || is_pending old u) none)
    ∙ zero_pending

-- a commit after spills
pub saves_then : {D : Type 0} (G : Ghosts D) (old mid new : Store D G) (b : Buffers) (sp : List ℕ) → Continues old mid → Continues mid new
    → ((m : Maps) → StandsFor old m → StandsFor mid (all_spilled (updated_ones b) sp m)) → KeepsSaved old mid → SavesAllOrNone mid new → ChangesAllOrNone old new b sp
saves_then G old mid new b sp first then stands p q = λ m from is_open.
    let all = all_spilled (updated_ones b) sp m in
    leaves_then G.time G.left_since (device_of old) (device_of mid) (device_of new) (MeansBy old m.saved)
    (λ x. MeansBy mid m.saved x ⊎ MeansBy mid (latest all) x) (λ x. MeansBy old m.saved x ⊎ MeansBy old (latest all) x)
    first.time then.time (p m from is_open)
    (subst (λ l. LeavesOnly G.time G.left_since (device_of mid) (device_of new) (λ x. MeansBy mid l x ⊎ MeansBy mid (latest all) x)) (spilled_saved (updated_ones b) sp m)
    (q all (stands m from) (spilled_closed (updated_ones b) sp m ∙ is_open)))
    (λ x means. inl means) (λ x means. subst (λ n. Means n m.saved x ⊎ Means n (latest all) x) first.sectors means)

-- what a commit after spills costs
module _ {D : Type 0} (G : Ghosts D) (old mid new : Store D G) (b : Buffers) (on : Continues old mid)
    (pending : (u : ℕ) → is_pending mid u ≡ (is_among (updated_ones b) u || is_pending old u)) where
  changed : pending_count mid ≡ changed_count old b
  changed = ap (λ n. count_below (is_pending mid) n) on.blocks ∙ count_below_same (is_pending mid) (is_changed old b) (blocks_of old) pending

  older : by_older mid ≡ by_older old
  older = ap is_size on.sectors

  pub save_reads : DeviceReads old mid (spill_reads (by_older old) * length (updated_ones b))
      → DeviceReads mid new (each_reads (by_older mid) * pending_count mid)
      → DeviceReads old new (spill_reads (by_older old) * length (updated_ones b) + each_reads (by_older old) * changed_count old b)
  save_reads first then = more (spill_reads (by_older old) * length (updated_ones b)) (each_reads (by_older old) * changed_count old b) first
      (subst (λ n. DeviceReads mid new (each_reads (by_older old) * n)) changed (subst (λ t. DeviceReads mid new (each_reads t * pending_count mid)) older then))
    where
      more : (a x : ℕ) → DeviceReads old mid a → DeviceReads mid new x → DeviceReads old new (a + x)
      more a x spills reads = omega (arith, spills, reads)

  pub save_begins : DeviceBegins old mid (spill_writes (by_older old) * length (updated_ones b)) 0
      → DeviceBegins mid new (each_writes (by_older mid) * pending_count mid + more_writes (by_older mid)) (save_syncs (by_older mid))
      → DeviceBegins old new
      (spill_writes (by_older old) * length (updated_ones b) + (each_writes (by_older old) * changed_count old b + more_writes (by_older old)))
      (save_syncs (by_older old))
  save_begins first then =
      more (spill_writes (by_older old) * length (updated_ones b)) (each_writes (by_older old) * changed_count old b + more_writes (by_older old))
      (save_syncs (by_older old)) first
      (subst (λ n. DeviceBegins mid new (each_writes (by_older old) * n + more_writes (by_older old)) (save_syncs (by_older old))) changed
      (subst (λ t. DeviceBegins mid new (each_writes t * pending_count mid + more_writes t) (save_syncs t)) older then))
    where
      more : (a x y : ℕ) → DeviceBegins old mid a 0 → DeviceBegins mid new x y → DeviceBegins old new (a + x) y
      more a x y spills begins = record { few_writes = omega (arith, spills.few_writes, begins.few_writes); few_syncs = omega (arith, spills.few_syncs, begins.few_syncs) }

-- a spill after a read
module _ {D : Type 0} (G : Ghosts D) (old mid new : Store D G) (on : Continues old mid) where
  pub fetched_begins : DeviceBegins old mid 0 0 → DeviceBegins mid new (spill_writes (by_older mid)) 0 → DeviceBegins old new (spill_writes (by_older old)) 0
  fetched_begins first then = sum (spill_writes (by_older old)) (subst (λ t. DeviceBegins mid new (spill_writes t) 0) (ap is_size on.sectors) then)
    where
      sum : (x : ℕ) → DeviceBegins mid new x 0 → DeviceBegins old new x 0
      sum x begins = record { few_writes = omega (arith, first.few_writes, begins.few_writes); few_syncs = omega (arith, first.few_syncs, begins.few_syncs) }

  pub fetched_reads : DeviceReads old mid 2 → DeviceReads mid new (spill_reads (by_older mid)) → DeviceReads old new (2 + spill_reads (by_older old))
  fetched_reads first then = sum (spill_reads (by_older old)) (subst (λ t. DeviceReads mid new (spill_reads t)) (ap is_size on.sectors) then)
    where
      sum : (x : ℕ) → DeviceReads mid new x → DeviceReads old new (2 + x)
      sum x reads = omega (arith, first, reads)

-- one spill more, after some
module _ {D : Type 0} (G : Ghosts D) (old mid new : Store D G) (on : Continues old mid) (n : ℕ) where
  pub begun_more : {m : ℕ} → m ≡ n + 1 → DeviceBegins old mid (spill_writes (by_older old) * n) 0 → DeviceBegins mid new (spill_writes (by_older mid)) 0
      → DeviceBegins old new (spill_writes (by_older old) * m) 0
  begun_more one so_far more = spills_begin G (device_of old) (device_of mid) (device_of new) (by_older old) n one so_far
      (subst (λ t. DeviceBegins mid new (spill_writes t) 0) (ap is_size on.sectors) more)

  pub read_more : {m : ℕ} → m ≡ n + 1 → DeviceReads old mid (spill_reads (by_older old) * n) → DeviceReads mid new (spill_reads (by_older mid))
      → DeviceReads old new (spill_reads (by_older old) * m)
  read_more one so_far more = spills_read G (device_of old) (device_of mid) (device_of new) (by_older old) n one so_far
      (subst (λ t. DeviceReads mid new (spill_reads t)) (ap is_size on.sectors) more)

-- spills, and then a commit
module _ {D : Type 0} (G : Ghosts D) (old mid new : Store D G) (on : Continues old mid) (n : ℕ) (few : pending_count mid ≤ pending_count old + n) where
  pub all_begins : DeviceBegins old mid (spill_writes (by_older old) * n) 0
      → DeviceBegins mid new (each_writes (by_older mid) * pending_count mid + more_writes (by_older mid)) (save_syncs (by_older mid))
      → DeviceBegins old new (2 * pending_count old + 4 * n + 3) 4
  all_begins first then = most_begins G (device_of old) (device_of mid) (device_of new) (by_older old) n (pending_count old) (pending_count mid) few first
      (subst (λ t. DeviceBegins mid new (each_writes t * pending_count mid + more_writes t) (save_syncs t)) (ap is_size on.sectors) then)

  pub all_reads : DeviceReads old mid (spill_reads (by_older old) * n) → DeviceReads mid new (each_reads (by_older mid) * pending_count mid)
      → DeviceReads old new (4 * pending_count old + 4 * n)
  all_reads first then = most_reads G (device_of old) (device_of mid) (device_of new) (by_older old) n (pending_count old) (pending_count mid) few first
      (subst (λ t. DeviceReads mid new (each_reads t * pending_count mid)) (ap is_size on.sectors) then)

-- ---- what a save wears

-- it stopped at a spill
pub unspilled_wears : {D : Type 0} (G : Ghosts D) (old new : D) (before : List Assigned) → G.sector_count new ≡ G.sector_count old
    → BeginsAtMost G old new (spill_writes (is_size (G.sector_count old)) * (length before + 1)) 0
    → ReadsAtMost G old new (spill_reads (is_size (G.sector_count old)) * (length before + 1))
    → WearsAtMost G old new (add_wear (spills_wear before) spill_wear)
unspilled_wears G old new before sectors begins reads =
    subst (λ w. WearsAtMost G old new (add_wear w spill_wear)) (sym (spills_counted before))
    (spills_by G old new (length before + 1) sectors begins reads)

-- it came to the commit
module _ {D : Type 0} (G : Ghosts D) (old : D) (mid new : Store D G) (b : Buffers) (all : Maps) (stands : StandsFor mid all) (is_open : closed_of mid ≡ false)
    (sectors : G.sector_count (device_of mid) ≡ G.sector_count old) (more_sectors : G.sector_count (device_of new) ≡ G.sector_count (device_of mid))
    (first : BeginsAtMost G old (device_of mid) (spill_writes (is_size (G.sector_count old)) * length (updated_ones b)) 0)
    (first_reads : ReadsAtMost G old (device_of mid) (spill_reads (is_size (G.sector_count old)) * length (updated_ones b)))
    (then : DeviceBegins mid new (each_writes (by_older mid) * pending_count mid + more_writes (by_older mid)) (save_syncs (by_older mid)))
    (then_reads : DeviceReads mid new (each_reads (by_older mid) * pending_count mid)) where
  spills : WearsAtMost G old (device_of mid) (spills_wear (updated_ones b))
  spills = subst (λ w. WearsAtMost G old (device_of mid) w) (sym (spills_counted (updated_ones b)))
      (spills_by G old (device_of mid) (length (updated_ones b)) sectors first first_reads)

  commits : WearsAtMost G (device_of mid) (device_of new) (commit_wear (pending_count mid))
  commits = record {
    sectors = more_sectors;
    begins = record { few_writes = omega (arith, then.few_writes); few_syncs = omega (arith, then.few_syncs) };
    reads = omega (arith, then_reads);
  }

  pub committed_wears : WearsAtMost G old (device_of new) (add_wear (spills_wear (updated_ones b)) (commit_wear (pending_number all.pending)))
  committed_wears =
      wears_then G old (device_of mid) (device_of new) (spills_wear (updated_ones b)) (commit_wear (pending_number all.pending)) spills
      (subst (λ n. WearsAtMost G (device_of mid) (device_of new) (commit_wear n)) (sym (pending_same mid all stands is_open)) commits)

  pub saved_wears : (pending_count mid ≡ 0 → device_of new ≡ device_of mid) → WearsAtMost G old (device_of new) (add_wear (spills_wear (updated_ones b)) (commit_wear_if (any_pending all.pending) (pending_number all.pending)))
  saved_wears nothing = pick (any_pending all.pending) refl
    where
      pick : (t : Bool) → any_pending all.pending ≡ t → WearsAtMost G old (device_of new) (add_wear (spills_wear (updated_ones b)) (commit_wear_if t (pending_number all.pending)))
      pick true is = committed_wears
      pick false is =
          subst (λ d. WearsAtMost G old d (add_wear (spills_wear (updated_ones b)) no_wear)) (sym (nothing (sym (pending_same mid all stands is_open) ∙ none_counted all.pending is)))
          (subst (λ w. WearsAtMost G old (device_of mid) w) (sym (none_more (spills_wear (updated_ones b)))) spills)
