-- Where the device is left to answer that all goes well, it never fails.
use Rattle.std.proofs.Common.{◌≡◌, ℕ, ◌+◌, Bool, true, false, List, [], ◌∷◌, ◌++◌, Option, Some, None, refl, ap}
use Rattle.journal.specs.Maps.{any_pending, committed, contents, spilled}
use Rattle.block_buffers.specs.declared.buffers.Assigned.{Assigned}
use Rattle.block_buffers.specs.Buffers.{Buffers, assigned, oldest, updated_ones, unmarked, none_assigned}
use Rattle.block_words.specs.declared.buffered_blocks.BlockFault.TheVariants.{Device, Memory}
use Rattle.block_words.specs.Words.{Answer, worn, read_wear, spill_wear, commit_wear, pending_number, Blocks as State, BlockOutcome, Gives, Fails, first_answer, later_answers, answered, device_call, with_closed, bytes_of, spill, spill_if, spill_oldest, give_buffer, assign, open_store, with_buffer, if_block, is_block, block, buffer, mark_current, update, next_map, spill_each, commit, returned, save_and, save_buffers, flush, source_of, source}
use Rattle.std.specs.Prelude.{replicate}
use Rattle.cell_machine.specs.Frames.{Core}
use Rattle.cell_machine.specs.Value.{Outcome}
use Rattle.cell_machine.proofs.Linked.{ends}
use Rattle.interpreter.specs.State.{World, Run, Forth, new_run, block_state, blocks_done, core_with, world_with}
use Rattle.interpreter.specs.Lines.{Ended, line_on}
use Rattle.interpreter.proofs.Beside as next
use Rattle.interpreter.proofs.Beside.{Reaches}
use Rattle.interpreter.proofs.Reaching.{Steady, Parts, answered_so, prints-li, keys-li, expect_of-li, none_lost}
use Rattle.interpreter.proofs.Settling as settle
use Rattle.interpreter.proofs.Settling.{alike, refused}
use Rattle.interpreter.proofs.Answered.{Refuses, parting}

-- no answer is set, and none failed
abbrev Quiet : State → Type 0
Quiet s = (s.answers ≡ []) × (s.failures ≡ 0)

abbrev QuietEnd : {A : Type 0} → BlockOutcome A → Type 0
QuietEnd (Gives v s) = Quiet s
QuietEnd (Fails f s) = Quiet s

module _ {A : Type 0} where
  well_answered : (answers : List Answer) (s : State) (well failed : State → BlockOutcome A) → answers ≡ []
      → QuietEnd (well (record s { answers = later_answers s.answers })) → QuietEnd (answered (first_answer answers) s well failed)
  well_answered [] s well failed e h = h
  well_answered (a ∷ answers) s well failed e h = absurd (cc)

  answer_well : (s : State) (well failed : State → BlockOutcome A) → Quiet s → ((t : State) → Quiet t → QuietEnd (well t)) → QuietEnd (answered (first_answer s.answers) s well failed)
  answer_well s well failed h k =
      well_answered s.answers s well failed h.0 (k (record s { answers = later_answers s.answers }) (ap (λ l. later_answers l) h.0, h.1))

  called : (s : State) (well failed : State → BlockOutcome A) → Quiet s → ((t : State) → Quiet t → QuietEnd (well t)) → QuietEnd (device_call s well failed)
  called s go failed h k = answer_well s go (λ s. failed (record s { failures = s.failures + 1 })) h k

  spilled_well : (x : Assigned) (s : State) (go : State → BlockOutcome A) → Quiet s → ((t : State) → Quiet t → QuietEnd (go t)) → QuietEnd (spill x s go)
  spilled_well x s go h k =
      called (worn spill_wear s) (λ s. go (record s { maps = spilled s.maps x.block (bytes_of s x) })) (λ s. Fails Device (with_closed s)) h
      (λ t ht. k (record t { maps = spilled t.maps x.block (bytes_of t x) }) ht)

  spilled_if : (b : Bool) (x : Assigned) (s : State) (go : State → BlockOutcome A) → Quiet s → ((t : State) → Quiet t → QuietEnd (go t)) → QuietEnd (spill_if b x s go)
  spilled_if true x s go h k = spilled_well x s go h k
  spilled_if false x s go h k = k s h

  oldest_spilled : (o : Option Assigned) (s : State) (go : State → BlockOutcome A) → Quiet s → ((t : State) → Quiet t → QuietEnd (go t)) → QuietEnd (spill_oldest o s go)
  oldest_spilled None s go h k = k s h
  oldest_spilled (Some x) s go h k = spilled_if x.updated x s go h k

  opened : (b : Bool) (s : State) (go : State → BlockOutcome A) → Quiet s → QuietEnd (go s) → QuietEnd (open_store b s go)
  opened true s go h k = h
  opened false s go h k = k

  block_there : (b : Bool) (s : State) (go : State → BlockOutcome A) → Quiet s → QuietEnd (go s) → QuietEnd (if_block b s go)
  block_there true s go h k = k
  block_there false s go h k = h

assigned_well : (b : ℕ) (bytes : List ℕ) (s : State) → Quiet s → QuietEnd (assign b bytes s)
assigned_well b bytes s h =
    oldest_spilled (oldest s.buffers) s (λ s. answered (first_answer s.answers) s (give_buffer b bytes) (λ s. Fails Memory s)) h
    (λ t ht. answer_well t (give_buffer b bytes) (λ s. Fails Memory s) ht (λ u hu. hu))

buffer_there : (o : Option Assigned) (s : State) (go : State → BlockOutcome ℕ) → Quiet s → QuietEnd (go s) → QuietEnd (with_buffer o s go)
buffer_there (Some x) s go h k = h
buffer_there None s go h k = opened s.maps.closed s go h k

block_quiet : (b : ℕ) (s : State) → Quiet s → QuietEnd (block b s)
block_quiet b s h =
    block_there (is_block s b) s _ h (buffer_there (assigned s.buffers.list b) s _ h
    (called (worn read_wear s) (λ s. assign b (contents s.maps b) s) (λ s. Fails Device s) h (λ t ht. assigned_well b (contents t.maps b) t ht)))

buffer_quiet : (b : ℕ) (s : State) → Quiet s → QuietEnd (buffer b s)
buffer_quiet b s h = block_there (is_block s b) s _ h (buffer_there (assigned s.buffers.list b) s _ h (assigned_well b (replicate 1024 32) s h))

mark_quiet : (o : Option ℕ) (s : State) → Quiet s → QuietEnd (mark_current o s)
mark_quiet None s h = h
mark_quiet (Some b) s h = h

spill_each_quiet : (xs : List Assigned) (s : State) (go : State → BlockOutcome (Unit {0})) → Quiet s → ((t : State) → Quiet t → QuietEnd (go t)) → QuietEnd (spill_each xs s go)
spill_each_quiet [] s go h k = k s h
spill_each_quiet (x ∷ xs) s go h k = spilled_well x s (λ s. spill_each xs s go) h (λ t ht. spill_each_quiet xs t go ht k)

commit_quiet : (b : Bool) (s : State) (go : State → BlockOutcome (Unit {0})) → Quiet s → ((t : State) → Quiet t → QuietEnd (go t)) → QuietEnd (commit b s go)
commit_quiet false s go h k = k (record s { maps = committed s.maps }) h
commit_quiet true s go h k =
    called (worn (commit_wear (pending_number s.maps.pending)) s) (λ s. go (record s { maps = committed s.maps })) (λ s. Fails Device (with_closed s)) h (λ t ht. k (record t { maps = committed t.maps }) ht)

save_quiet : (change : Buffers → Buffers) (s : State) → Quiet s → QuietEnd (save_and change s)
save_quiet change s h =
    opened s.maps.closed s _ h
    (spill_each_quiet (updated_ones s.buffers) (record s { saves = s.saves ++ record { map = next_map s.buffers s.space s.maps; returned = false } ∷ [] }) _ h
    (λ t ht. commit_quiet (any_pending t.maps.pending) t (λ s. Gives tt (record s { buffers = change s.buffers; saves = returned s.saves })) ht (λ u hu. hu)))

source_of_quiet : (o : Option Assigned) (b : ℕ) (s : State) → Quiet s → QuietEnd (source_of o b s)
source_of_quiet (Some x) b s h = h
source_of_quiet None b s h =
    opened s.maps.closed s _ h (called (worn read_wear s) (λ s. Gives (contents s.maps b) s) (λ s. Fails Device s) h (λ t ht. ht))

source_quiet : (b : ℕ) (s : State) → Quiet s → QuietEnd (source b s)
source_quiet b s h = block_there (is_block s b) s _ h (source_of_quiet (assigned s.buffers.list b) b s h)

-- ---- of a line

abbrev QuietRun : Run → Type 0
QuietRun r = (r.answers ≡ []) × (r.failures ≡ 0)

quiet_steady : Steady QuietRun
quiet_steady = record { prints = λ bytes r h. h; counts = λ n r h. h; reads = λ k at_end r h. h }

abbrev beside : World → World
beside x = next.beside (λ r. answered_so true r) QuietRun (λ e x. Parts true e x) (λ x. ⊥) x

abbrev Linked : Outcome World → Outcome World → Type 0
Linked r s = next.Linked (λ r. answered_so true r) QuietRun (λ e x. Parts true e x) (λ x. ⊥) r s

blocks_done-li : {A : Type 0} (o : BlockOutcome A) (c : Core) (x : World) (go go' : A → Core → World → Outcome World) → QuietEnd o
    → ((v : A) (d : Core) (y : World) → QuietRun y.run → Linked (go v d y) (go' v d (beside y))) → Linked (blocks_done o c x go) (blocks_done o c (beside x) go')
blocks_done-li (Gives v s) c x go go' h k = k v (core_with s c) (world_with s x) h
blocks_done-li (Fails f s) c x go go' h k = ends _ (core_with s c) (world_with s x) h

quiet_reaches : Reaches (λ r. answered_so true r) QuietRun (λ e x. Parts true e x) (λ x. ⊥)
quiet_reaches = record {
  prints = λ bytes c x h. prints-li true QuietRun quiet_steady bytes c x h;
  keys = λ c x h. keys-li true QuietRun quiet_steady c x h;
  expects = λ a u c x h. expect_of-li true QuietRun quiet_steady x.run.terminal a u c x h;
  blocks = λ u c x go go' h k. blocks_done-li (block u (block_state c x)) c x go go' (block_quiet u (block_state c x) h) k;
  buffers = λ u c x go go' h k. blocks_done-li (buffer u (block_state c x)) c x go go' (buffer_quiet u (block_state c x) h) k;
  updates = λ c x go go' h k. blocks_done-li (update (block_state c x)) c x go go' (mark_quiet x.buffers.current (block_state c x) h) k;
  saves = λ c x go go' h k. blocks_done-li (save_buffers (block_state c x)) c x go go' (save_quiet unmarked (block_state c x) h) k;
  flushes = λ c x go go' h k. blocks_done-li (flush (block_state c x)) c x go go' (save_quiet (λ bs. none_assigned) (block_state c x) h) k;
  sources = λ u c x go go' h k. blocks_done-li (source u (block_state c x)) c x go go' (source_quiet u (block_state c x) h) k;
}

quiet_end : (e f : Ended) → settle.Alike (λ r. answered_so true r) QuietRun (λ e x. Parts true e x) (λ x. ⊥) (λ e. Refuses true e) quiet_reaches none_lost (parting true) e f
    → QuietRun e.world.run
quiet_end e f (alike ending place c x h) = h
quiet_end e f (refused d g k) = absurd (let no : true ≡ false = k.0 in cc)

pub never_fails : (s : Forth) (bytes given : List ℕ) → (line_on s bytes given []).world.run.failures ≡ 0
never_fails s bytes given =
    let e = line_on s bytes given [] in
    (quiet_end e e (settle.line-li (λ r. answered_so true r) QuietRun (λ e x. Parts true e x) (λ x. ⊥) (λ e. Refuses true e) quiet_reaches none_lost (parting true) s bytes (new_run given [] None) (refl, refl))).1
