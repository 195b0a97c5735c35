-- Without answers no call of the device fails.
use Rattle.std.proofs.Common.{◌≡◌, ℕ, zero, suc, ◌-◌, Bool, true, false, ◌||◌, List, [], ◌∷◌, ◌++◌, length, drop, take, Option, Some, None, refl, sym, ap, subst, ◌∙◌}
use Rattle.std.specs.Prelude.{nat_lt, ◌==◌, replicate}
use Rattle.journal.specs.Maps.{any_pending, committed, contents, spilled}
use Rattle.block_buffers.specs.declared.buffers.Assigned.{Assigned}
use Rattle.block_buffers.specs.Buffers.{Buffers, assigned, oldest, updated_ones, unmarked, none_assigned}
use Rattle.block_words.specs.declared.buffered_blocks.BlockFault.TheVariants.{Memory}
use Rattle.block_words.specs.Words.{worn, read_wear, spill_wear, commit_wear, pending_number, Blocks as State, BlockOutcome, Gives, Fails, first_answer, later_answers, answered, bytes_of, spill, spill_if, spill_oldest, give_buffer, assign, open_store, with_buffer, if_block, is_block, block, buffer, mark_current, update, next_map, spill_each, commit, returned, save_and, save_buffers, flush, source_of, source}
use Rattle.cell_machine.specs.Fault.{Faults, Breaks, EndOfInput}
use Rattle.cell_machine.specs.Frames.{Core, Level}
use Rattle.cell_machine.specs.Value.{Outcome, Did}
use Rattle.cell_machine.proofs.Linked.{did, ends, parted, strayed}
use Rattle.interpreter.specs.State.{World, Run, with_input, with_output, with_terminal, block_state, blocks_done, world_with, fault_of}
use Rattle.interpreter.specs.Terminals.{terminal_call, print, key_of, expect_of, expect_done, asked, stored, unread, meets_end, store_input}
use Rattle.interpreter.specs.Law.{left, run_after}
use Rattle.interpreter.proofs.Beside as next
use Rattle.interpreter.proofs.Beside.{Reaches, Stays}
use Rattle.interpreter.proofs.Reaching.{none_lost}
use Rattle.interpreter.proofs.Settling as settle
use Rattle.interpreter.proofs.Settling.{Parting}

-- ---- the block words

module _ (n : ℕ) where
  abbrev IsStill : State → Type 0
  IsStill s = (s.answers ≡ []) × (s.failures ≡ n)

  abbrev Quiet : {A : Type 0} → BlockOutcome A → Type 0
  Quiet (Gives v s) = IsStill s
  Quiet (Fails f s) = IsStill s

  call-q : {A : Type 0} (s : State) (well failed : State → BlockOutcome A) → IsStill s → ((t : State) → IsStill t → Quiet (well t)) → Quiet (answered (first_answer s.answers) s well failed)
  call-q {A} s well failed h k =
      subst (λ l. Quiet (answered (first_answer l) s well failed)) (sym h.0) (k (record s { answers = later_answers s.answers }) (ap later_answers h.0, h.1))

  spill-q : {A : Type 0} (x : Assigned) (s : State) (go : State → BlockOutcome A) → IsStill s → ((t : State) → IsStill t → Quiet (go t)) → Quiet (spill x s go)
  spill-q x s go h k = call-q (worn spill_wear s) _ _ h (λ t ht. k (record t { maps = spilled t.maps x.block (bytes_of t x) }) ht)

  spill_if-q : {A : Type 0} (b : Bool) (x : Assigned) (s : State) (go : State → BlockOutcome A) → IsStill s → ((t : State) → IsStill t → Quiet (go t)) → Quiet (spill_if b x s go)
  spill_if-q true x s go h k = spill-q x s go h k
  spill_if-q false x s go h k = k s h

  spill_oldest-q : {A : Type 0} (o : Option Assigned) (s : State) (go : State → BlockOutcome A) → IsStill s → ((t : State) → IsStill t → Quiet (go t)) → Quiet (spill_oldest o s go)
  spill_oldest-q None s go h k = k s h
  spill_oldest-q (Some x) s go h k = spill_if-q x.updated x s go h k

  open-q : {A : Type 0} (b : Bool) (s : State) (go : State → BlockOutcome A) → IsStill s → Quiet (go s) → Quiet (open_store b s go)
  open-q true s go h k = h
  open-q false s go h k = k

  if_block-q : {A : Type 0} (b : Bool) (s : State) (go : State → BlockOutcome A) → IsStill s → Quiet (go s) → Quiet (if_block b s go)
  if_block-q true s go h k = k
  if_block-q false s go h k = h

  spill_each-q : (xs : List Assigned) (s : State) (go : State → BlockOutcome (Unit {0})) → IsStill s → ((t : State) → IsStill t → Quiet (go t)) → Quiet (spill_each xs s go)
  spill_each-q [] s go h k = k s h
  spill_each-q (x ∷ xs) s go h k = spill-q x s (λ s. spill_each xs s go) h (λ t ht. spill_each-q xs t go ht k)

  commit-q : (b : Bool) (s : State) (go : State → BlockOutcome (Unit {0})) → IsStill s → ((t : State) → IsStill t → Quiet (go t)) → Quiet (commit b s go)
  commit-q false s go h k = k (record s { maps = committed s.maps }) h
  commit-q true s go h k = call-q (worn (commit_wear (pending_number s.maps.pending)) s) _ _ h (λ t ht. k (record t { maps = committed t.maps }) ht)

  assign-q : (b : ℕ) (bytes : List ℕ) (s : State) → IsStill s → Quiet (assign b bytes s)
  assign-q b bytes s h = spill_oldest-q (oldest s.buffers) s _ h (λ t ht. call-q t (λ s. give_buffer b bytes s) (λ s. Fails Memory s) ht (λ u hu. hu))

  with_buffer-q : (o : Option Assigned) (s : State) (go : State → BlockOutcome ℕ) → IsStill s → Quiet (go s) → Quiet (with_buffer o s go)
  with_buffer-q (Some x) s go h k = h
  with_buffer-q None s go h k = open-q s.maps.closed s go h k

  block-q : (b : ℕ) (s : State) → IsStill s → Quiet (block b s)
  block-q b s h =
      if_block-q (is_block s b) s _ h (with_buffer-q (assigned s.buffers.list b) s _ h (call-q (worn read_wear s) (λ s. assign b (contents s.maps b) s) _ h (λ t ht. assign-q b (contents t.maps b) t ht)))

  buffer-q : (b : ℕ) (s : State) → IsStill s → Quiet (buffer b s)
  buffer-q b s h = if_block-q (is_block s b) s _ h (with_buffer-q (assigned s.buffers.list b) s _ h (assign-q b (replicate 1024 32) s h))

  mark-q : (o : Option ℕ) (s : State) → IsStill s → Quiet (mark_current o s)
  mark-q None s h = h
  mark-q (Some b) s h = h

  update-q : (s : State) → IsStill s → Quiet (update s)
  update-q s h = mark-q s.buffers.current s h

  source_of-q : (o : Option Assigned) (b : ℕ) (s : State) → IsStill s → Quiet (source_of o b s)
  source_of-q (Some x) b s h = h
  source_of-q None b s h = open-q s.maps.closed s _ h (call-q (worn read_wear s) (λ s. Gives (contents s.maps b) s) _ h (λ t ht. ht))

  source-q : (b : ℕ) (s : State) → IsStill s → Quiet (source b s)
  source-q b s h = if_block-q (is_block s b) s _ h (source_of-q (assigned s.buffers.list b) b s h)

  save-q : (change : Buffers → Buffers) (s : State) → IsStill s → Quiet (save_and change s)
  save-q change s h =
      open-q s.maps.closed s _ h
      (spill_each-q (updated_ones s.buffers) (record s { saves = s.saves ++ record { map = next_map s.buffers s.space s.maps; returned = false } ∷ [] }) _ h (λ t ht.
      commit-q (any_pending t.maps.pending) t (λ s. Gives tt (record s { buffers = change s.buffers; saves = returned s.saves })) ht (λ u hu. hu)))

-- ---- a line

module _ (most : ℕ) where
  abbrev Q : Run → Type 0
  Q r = (r.answers ≡ []) × (r.failures ≡ most)

  abbrev Linked : Outcome World → Outcome World → Type 0
  Linked r s = next.Linked (λ r. r) Q (λ e x. ⊥) (λ x. ⊥) r s

  terminal_call-li : (o : Option ℕ) (c : Core) (x : World) (go : World → Outcome World) → Q x.run → ((y : World) → Q y.run → Linked (go y) (go y)) → Linked (terminal_call o c x go) (terminal_call o c x go)
  terminal_call-li None c x go h k = k x h
  terminal_call-li (Some zero) c x go h k = ends Breaks c x h
  terminal_call-li (Some (suc n)) c x go h k = k (with_terminal (Some n) x) h

  prints-li : (bytes : List ℕ) (c : Core) (x : World) → Q x.run → Linked (print bytes c x) (print bytes c x)
  prints-li bytes c x h = terminal_call-li x.run.terminal c x (λ x. Did c (with_output (x.run.output ++ bytes) x)) h (λ y hy. did c (with_output (y.run.output ++ bytes) y) hy)

  key_of-li : (input : List ℕ) (c : Core) (x : World) → Q x.run → Linked (key_of input c x) (key_of input c x)
  key_of-li [] c x h = ends (Faults EndOfInput) c (with_input [] true x) h
  key_of-li (b ∷ input) c x h = next.pushing-li (λ r. r) Q (λ e x. ⊥) (λ x. ⊥) b c (with_input input x.run.at_end x) h

  keys-li : (c : Core) (x : World) → Q x.run → Linked (terminal_call x.run.terminal c x (λ x. key_of x.run.input c x)) (terminal_call x.run.terminal c x (λ x. key_of x.run.input c x))
  keys-li c x h = terminal_call-li x.run.terminal c x (λ x. key_of x.run.input c x) h (λ y hy. key_of-li y.run.input c y hy)

  expect_done-li : (a u : ℕ) (c : Core) (x : World) → Q x.run → Linked (expect_done a u c x) (expect_done a u c x)
  expect_done-li a u c x h =
      next.needing-li (λ r. r) Q (λ e x. ⊥) (λ x. ⊥) (u == 0 || nat_lt 0 (length x.run.input)) EndOfInput c (with_input (unread u x.run.input) (meets_end u x.run.input || x.run.at_end) x) _ _ h
      (did _ (with_input (unread u x.run.input) (meets_end u x.run.input || x.run.at_end) x) h)

  expect_of-li : (o : Option ℕ) (a u : ℕ) (c : Core) (x : World) → Q x.run → Linked (expect_of o a u c x) (expect_of o a u c x)
  expect_of-li None a u c x h = expect_done-li a u c x h
  expect_of-li (Some k) a u c x h =
      next.branch-li (λ r. r) Q (λ e x. ⊥) (λ x. ⊥) (nat_lt k (asked u x.run.input)) c _ _ _ _
      (ends Breaks (store_input a (stored u (take k x.run.input)) c) (with_input (drop k x.run.input) x.run.at_end x) h)
      (expect_done-li a u c (with_terminal (Some (k - asked u x.run.input)) x) h)

  blocks_done-li : {A : Type 0} (o : BlockOutcome A) (c : Core) (x : World) (go go' : A → Core → World → Outcome World) → Q x.run → Quiet x.run.failures o
      → ((v : A) (d : Core) (y : World) → Q y.run → Linked (go v d y) (go' v d y)) → Linked (blocks_done o c x go) (blocks_done o c x go')
  blocks_done-li (Gives v s) c x go go' h q k = k v _ (world_with s x) (q.0, q.1 ∙ h.1)
  blocks_done-li (Fails f s) c x go go' h q k = ends (Faults (fault_of f)) _ (world_with s x) (q.0, q.1 ∙ h.1)

  quietly : Reaches (λ r. r) Q (λ e x. ⊥) (λ x. ⊥)
  quietly = record {
    prints = λ bytes c x h. prints-li bytes c x h;
    keys = λ c x h. keys-li c x h;
    expects = λ a u c x h. expect_of-li x.run.terminal a u c x h;
    blocks = λ u c x go go' h k. blocks_done-li (block u (block_state c x)) c x go go' h (block-q x.run.failures u (block_state c x) (h.0, refl)) k;
    buffers = λ u c x go go' h k. blocks_done-li (buffer u (block_state c x)) c x go go' h (buffer-q x.run.failures u (block_state c x) (h.0, refl)) k;
    updates = λ c x go go' h k. blocks_done-li (update (block_state c x)) c x go go' h (update-q x.run.failures (block_state c x) (h.0, refl)) k;
    saves = λ c x go go' h k. blocks_done-li (save_buffers (block_state c x)) c x go go' h (save-q x.run.failures unmarked (block_state c x) (h.0, refl)) k;
    flushes = λ c x go go' h k. blocks_done-li (flush (block_state c x)) c x go go' h (save-q x.run.failures (λ bs. none_assigned) (block_state c x) (h.0, refl)) k;
    sources = λ u c x go go' h k. blocks_done-li (source u (block_state c x)) c x go go' h (source-q x.run.failures u (block_state c x) (h.0, refl)) k;
  }

  nowhere : Parting (λ e x. ⊥) (λ x. ⊥) (λ e. ⊥)
  nowhere = record { ended_apart = λ e c x h. h; broken_apart = λ ending e c x h. h; ended_lost = λ r h. h; replied_lost = λ ending place r h. h }

  held : (r s : Outcome World) → Linked r s → Q (run_after r)
  held r s (did c x h) = h
  held r s (ends e c x h) = h
  held r s (parted e c x o h) = absurd h
  held r s (strayed u v h) = absurd h

  pub stays_quiet : (n : ℕ) (levels : List Level) (c : Core) (x : World) → Q x.run → Q (run_after (left n levels c x))
  stays_quiet n levels c x h = held _ _ (settle.left-li (λ r. r) Q (λ e x. ⊥) (λ x. ⊥) (λ e. ⊥) quietly none_lost nowhere n levels c x h)
