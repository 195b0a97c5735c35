-- A block word run twice side by side: with the same answers, or the second time with none. What holds of wear and
-- saves at first holds at the end.
use Rattle.std.proofs.Common.{◌≡◌, ℕ, ◌+◌, Bool, true, false, List, [], ◌∷◌, ◌++◌, Option, Some, None, refl, sym, ap, ◌∙◌, subst}
use Rattle.std.specs.Prelude.{⊤, replicate}
use Rattle.journal.specs.Maps.{any_pending, committed, contents, spilled}
use Rattle.block_buffers.specs.declared.buffers.Assigned.{Assigned}
use Rattle.block_buffers.specs.Buffers.{Buffers, assigned, oldest, updated_ones, unmarked, none_assigned}
use Rattle.block_words.specs.declared.buffered_blocks.BlockFault.{BlockFault}
use Rattle.block_words.specs.declared.buffered_blocks.BlockFault.TheVariants.{NoBlock, NoBuffer, Device, Closed, Memory}
use Rattle.block_words.specs.Words.{Answer, Well, Failed, Save, Wear, add_wear, worn, read_wear, spill_wear, commit_wear, pending_number, Blocks, BlockOutcome, Gives, Fails, first_answer, answered, device_call, with_closed, bytes_of, spill, spill_if, spill_oldest, give_buffer, assign, open_store, with_buffer, if_block, is_block, block, buffer, mark_current, update, next_map, spill_each, commit, returned, save_and, save_buffers, flush, source_of, source}

-- with the same answers, or with none
abbrev pub same_or_none : Bool → List Answer → List Answer
same_or_none true answers = answers
same_or_none false answers = []

-- the device or the growth of memory was refused
abbrev pub IsRefusal : BlockFault → Type 0
IsRefusal Device = ⊤
IsRefusal Memory = ⊤
IsRefusal NoBlock = ⊥
IsRefusal NoBuffer = ⊥
IsRefusal Closed = ⊥

module _ (same : Bool) where
  abbrev pub other : Blocks → Blocks
  other s = record s { answers = same_or_none same s.answers }

  -- the outcomes agree, and R holds of wear and saves; or with other answers they may part
  pub data Linked {A : Type 0} (R : Wear → List Save → Type 0) : BlockOutcome A → BlockOutcome A → Type 0 where
    gives : (v : A) (s : Blocks) → R s.wear s.saves → Linked R (Gives v s) (Gives v (other s))
    fails : (f : BlockFault) (s : Blocks) → R s.wear s.saves → Linked R (Fails f s) (Fails f (other s))
    parted : (f : BlockFault) (s : Blocks) (o : BlockOutcome A) → same ≡ false → IsRefusal f → Linked R (Fails f s) o

-- it is so of more wear
abbrev pub LastsWorn : (Wear → List Save → Type 0) → Type 0
LastsWorn Q = (w more : Wear) (l : List Save) → Q w l → Q (add_wear w more) l

module _ {A : Type 0} (Q R : Wear → List Save → Type 0) (qr : (w : Wear) (l : List Save) → Q w l → R w l) where
  call-li : (same : Bool) (answers : List Answer) (s : Blocks) (well failed : Blocks → BlockOutcome A) → Q s.wear s.saves
      → ((t : Blocks) → Q t.wear t.saves → Linked same R (well t) (well (other same t)))
      → ((t : Blocks) → Q t.wear t.saves → Linked same R (failed t) (failed (other same t)))
      → ((t : Blocks) (o : BlockOutcome A) → same ≡ false → Linked same R (failed t) o)
      → Linked same R (answered (first_answer answers) (record s { answers = answers }) well failed)
      (answered (first_answer (same_or_none same answers)) (record s { answers = same_or_none same answers }) well failed)
  call-li true [] s well failed h k l m = k (record s { answers = [] }) h
  call-li true (Well ∷ answers) s well failed h k l m = k (record s { answers = answers }) h
  call-li true (Failed ∷ answers) s well failed h k l m = l (record s { answers = answers }) h
  call-li false [] s well failed h k l m = k (record s { answers = [] }) h
  call-li false (Well ∷ answers) s well failed h k l m = k (record s { answers = answers }) h
  call-li false (Failed ∷ answers) s well failed h k l m = m (record s { answers = answers }) _ refl

  module _ (same : Bool) where
    device-li : (s : Blocks) (well failed : Blocks → BlockOutcome A) → Q s.wear s.saves
        → ((t : Blocks) → Q t.wear t.saves → Linked same R (well t) (well (other same t)))
        → ((t : Blocks) → Q t.wear t.saves → Linked same R (failed t) (failed (other same t)))
        → ((t : Blocks) (o : BlockOutcome A) → same ≡ false → Linked same R (failed t) o)
        → Linked same R (device_call s well failed) (device_call (other same s) well failed)
    device-li s well failed h k l m =
        call-li same s.answers s well (λ s. failed (record s { failures = s.failures + 1 })) h k (λ t ht. l (record t { failures = t.failures + 1 }) ht) (λ t o e. m (record t { failures = t.failures + 1 }) o e)

    spill-li : LastsWorn Q → (x : Assigned) (s : Blocks) (go : Blocks → BlockOutcome A) → Q s.wear s.saves → ((t : Blocks) → Q t.wear t.saves → Linked same R (go t) (go (other same t))) → Linked same R (spill x s go) (spill x (other same s) go)
    spill-li qw x s go h k =
        device-li (worn spill_wear s) (λ s. go (record s { maps = spilled s.maps x.block (bytes_of s x) })) (λ s. Fails Device (with_closed s)) (qw s.wear spill_wear s.saves h)
        (λ t ht. k (record t { maps = spilled t.maps x.block (bytes_of t x) }) ht) (λ t ht. fails Device (with_closed t) (qr t.wear t.saves ht)) (λ t o e. parted Device (with_closed t) o e tt)

    spill_if-li : LastsWorn Q → (b : Bool) (x : Assigned) (s : Blocks) (go : Blocks → BlockOutcome A) → Q s.wear s.saves → ((t : Blocks) → Q t.wear t.saves → Linked same R (go t) (go (other same t))) → Linked same R (spill_if b x s go) (spill_if b x (other same s) go)
    spill_if-li qw true x s go h k = spill-li qw x s go h k
    spill_if-li qw false x s go h k = k s h

    spill_oldest-li : LastsWorn Q → (o : Option Assigned) (s : Blocks) (go : Blocks → BlockOutcome A) → Q s.wear s.saves → ((t : Blocks) → Q t.wear t.saves → Linked same R (go t) (go (other same t))) → Linked same R (spill_oldest o s go) (spill_oldest o (other same s) go)
    spill_oldest-li qw None s go h k = k s h
    spill_oldest-li qw (Some x) s go h k = spill_if-li qw x.updated x s go h k

    open-li : (b : Bool) (s : Blocks) (go : Blocks → BlockOutcome A) → Q s.wear s.saves → Linked same R (go s) (go (other same s)) → Linked same R (open_store b s go) (open_store b (other same s) go)
    open-li true s go h k = fails Closed s (qr s.wear s.saves h)
    open-li false s go h k = k

    if_block-li : (b : Bool) (s : Blocks) (go : Blocks → BlockOutcome A) → Q s.wear s.saves → Linked same R (go s) (go (other same s)) → Linked same R (if_block b s go) (if_block b (other same s) go)
    if_block-li true s go h k = k
    if_block-li false s go h k = fails NoBlock s (qr s.wear s.saves h)

module _ (same : Bool) (Q R : Wear → List Save → Type 0) (qr : (w : Wear) (l : List Save) → Q w l → R w l) (qw : LastsWorn Q) where
  spill_each-li : (xs : List Assigned) (s : Blocks) (go : Blocks → BlockOutcome (Unit {0})) → Q s.wear s.saves → ((t : Blocks) → Q t.wear t.saves → Linked same R (go t) (go (other same t))) → Linked same R (spill_each xs s go) (spill_each xs (other same s) go)
  spill_each-li [] s go h k = k s h
  spill_each-li (x ∷ xs) s go h k = spill-li Q R qr same qw x s (λ s. spill_each xs s go) h (λ t ht. spill_each-li xs t go ht k)

  commit-li : (b : Bool) (s : Blocks) (go : Blocks → BlockOutcome (Unit {0})) → Q s.wear s.saves → ((t : Blocks) → Q t.wear t.saves → Linked same R (go t) (go (other same t))) → Linked same R (commit b s go) (commit b (other same s) go)
  commit-li false s go h k = k (record s { maps = committed s.maps }) h
  commit-li true s go h k =
      device-li Q R qr same (worn (commit_wear (pending_number s.maps.pending)) s) (λ s. go (record s { maps = committed s.maps })) (λ s. Fails Device (with_closed s))
      (qw s.wear (commit_wear (pending_number s.maps.pending)) s.saves h)
      (λ t ht. k (record t { maps = committed t.maps }) ht) (λ t ht. fails Device (with_closed t) (qr t.wear t.saves ht)) (λ t o e. parted Device (with_closed t) o e tt)

-- R is so of more wear, of more saves, and of a last one that has returned
pub record Grows (R : Wear → List Save → Type 0) : Type 0 where
  pub wears : LastsWorn R
  pub more : (w : Wear) (l : List Save) (x : Save) → R w l → R w (l ++ x ∷ [])

returned_last : (l : List Save) (x : Save) → returned (l ++ x ∷ []) ≡ l ++ record x { returned = true } ∷ []
returned_last [] x = refl
returned_last (y ∷ []) x = refl
returned_last (y ∷ z ∷ l) x = ap (λ r. y ∷ r) (returned_last (z ∷ l) x)

module _ (same : Bool) (R : Wear → List Save → Type 0) (grows : Grows R) where
  assign-li : (b : ℕ) (bytes : List ℕ) (s : Blocks) → R s.wear s.saves → Linked same R (assign b bytes s) (assign b bytes (other same s))
  assign-li b bytes s h =
      spill_oldest-li R R (λ w l h. h) same grows.wears (oldest s.buffers) s _ h (λ t ht.
      call-li R R (λ w l h. h) same t.answers t (λ s. give_buffer b bytes s) (λ s. Fails Memory s) ht (λ u hu. gives _ _ hu) (λ u hu. fails Memory u hu) (λ u o e. parted Memory u o e tt))

  with_buffer-li : (o : Option Assigned) (s : Blocks) (go : Blocks → BlockOutcome ℕ) → R s.wear s.saves → Linked same R (go s) (go (other same s)) → Linked same R (with_buffer o s go) (with_buffer o (other same s) go)
  with_buffer-li (Some x) s go h k = gives _ _ h
  with_buffer-li None s go h k = open-li R R (λ w l h. h) same s.maps.closed s go h k

  pub block-li : (b : ℕ) (s : Blocks) → R s.wear s.saves → Linked same R (block b s) (block b (other same s))
  block-li b s h =
      if_block-li R R (λ w l h. h) same (is_block s b) s _ h (with_buffer-li (assigned s.buffers.list b) s _ h
      (device-li R R (λ w l h. h) same (worn read_wear s) (λ s. assign b (contents s.maps b) s) (λ s. Fails Device s) (grows.wears s.wear read_wear s.saves h) (λ t ht. assign-li b _ t ht) (λ t ht. fails Device t ht) (λ t o e. parted Device t o e tt)))

  pub buffer-li : (b : ℕ) (s : Blocks) → R s.wear s.saves → Linked same R (buffer b s) (buffer b (other same s))
  buffer-li b s h = if_block-li R R (λ w l h. h) same (is_block s b) s _ h (with_buffer-li (assigned s.buffers.list b) s _ h (assign-li b (replicate 1024 32) s h))

  mark-li : (o : Option ℕ) (s : Blocks) → R s.wear s.saves → Linked same R (mark_current o s) (mark_current o (other same s))
  mark-li None s h = fails NoBuffer s h
  mark-li (Some b) s h = gives _ _ h

  pub update-li : (s : Blocks) → R s.wear s.saves → Linked same R (update s) (update (other same s))
  update-li s h = mark-li s.buffers.current s h

  source_of-li : (o : Option Assigned) (b : ℕ) (s : Blocks) → R s.wear s.saves → Linked same R (source_of o b s) (source_of o b (other same s))
  source_of-li (Some x) b s h = gives _ _ h
  source_of-li None b s h =
      open-li R R (λ w l h. h) same s.maps.closed s _ h
      (device-li R R (λ w l h. h) same (worn read_wear s) (λ s. Gives (contents s.maps b) s) (λ s. Fails Device s) (grows.wears s.wear read_wear s.saves h) (λ t ht. gives _ t ht) (λ t ht. fails Device t ht) (λ t o e. parted Device t o e tt))

  pub source-li : (b : ℕ) (s : Blocks) → R s.wear s.saves → Linked same R (source b s) (source b (other same s))
  source-li b s h = if_block-li R R (λ w l h. h) same (is_block s b) s _ h (source_of-li (assigned s.buffers.list b) b s h)

  save-li : (change : Buffers → Buffers) (s : Blocks) → R s.wear s.saves → Linked same R (save_and change s) (save_and change (other same s))
  save-li change s h =
      let begun : Save = record { map = next_map s.buffers s.space s.maps; returned = false } in
      let begins : Wear → List Save → Type 0 = λ w l. (l ≡ s.saves ++ begun ∷ []) × R w s.saves in
      let ends : (w : Wear) (l : List Save) → begins w l → R w l = λ w l e. subst (λ l. R w l) (sym e.0) (grows.more w s.saves begun e.1) in
      let wears : LastsWorn begins = λ w more l e. (e.0, grows.wears w more s.saves e.1) in
      open-li R R (λ w l h. h) same s.maps.closed s _ h
      (spill_each-li same begins R ends wears (updated_ones s.buffers) (record s { saves = s.saves ++ begun ∷ [] }) _ (refl, h) (λ t ht.
      commit-li same begins R ends wears (any_pending t.maps.pending) t (λ s. Gives tt (record s { buffers = change s.buffers; saves = returned s.saves })) ht (λ u hu.
      gives tt (record u { buffers = change u.buffers; saves = returned u.saves })
      (subst (λ l. R u.wear l) (sym (ap returned hu.0 ∙ returned_last s.saves begun)) (grows.more u.wear s.saves (record begun { returned = true }) hu.1)))))

  pub save_buffers-li : (s : Blocks) → R s.wear s.saves → Linked same R (save_buffers s) (save_buffers (other same s))
  save_buffers-li s h = save-li unmarked s h

  pub flush-li : (s : Blocks) → R s.wear s.saves → Linked same R (flush s) (flush (other same s))
  flush-li s h = save-li (λ bs. none_assigned) s h
