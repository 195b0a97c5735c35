-- Which blocks are undone, as the system tells it.
use Rattle.std.specs.Prelude.{◌≡◌, ℕ, zero, suc, ◌<◌, ◌&&◌, ◌||◌, ◌++◌, if◌then◌else◌, not, is_some, Bool, true, false, [], ◌∷◌, length, Some, None}
use Rattle.std.proofs.Common.{refl, sym, ap, ◌∙◌, arith}
use Rattle.sector_disk.specs.declared.device.SectorDevice.{Ghosts}
use Rattle.journal.specs.Maps.{Maps, pending_in}
use Rattle.journal.specs.Store.{StandsFor, blocks_of, closed_of, is_pending}
use Rattle.journal.specs.declared.store.Store.{Store}
use Rattle.block_buffers.specs.Buffers.{Buffers, updated_ones}
use Rattle.block_words.specs.Parts.{buffers_of, store_of}
use Rattle.block_words.specs.Uses.{is_among, is_changed}
use Rattle.interpreter.specs.declared.forth.Forth.{Forth}
use Rattle.interpreter.specs.LineContract.{IsSystem}
use Rattle.interpreter.specs.Lines.{LineEnd, changed_below, has_failed, undone_by}
use Rattle.interpreter.specs.State as state

same_below : (p q : ℕ → Bool) (n : ℕ) → ((b : ℕ) → b < n → p b ≡ q b) → changed_below p n ≡ changed_below q n
same_below p q zero same = refl
same_below p q (suc n) same =
    λ t. same_below p q n (λ b below. same b (omega (arith, below))) t ++ (if same n (omega arith) t then n ∷ [] else [])

none_below : (n : ℕ) → changed_below (λ b. false) n ≡ []
none_below zero = refl
none_below (suc n) = ap (λ l. l ++ []) (none_below n)

is_some_if : {A : Type 0} (t : Bool) (x : A) → is_some (if t then Some x else None) ≡ t
is_some_if true x = refl
is_some_if false x = refl

module _ {D : Type 0} {G : Ghosts D} where
  changed_is : (store : Store D G) (buffers : Buffers) (m : Maps) → StandsFor store m → closed_of store ≡ false → (b : ℕ) → b < blocks_of store
      → is_changed store buffers b ≡ (is_among (updated_ones buffers) b || is_some (pending_in m.pending b))
  changed_is store buffers m stands now b below =
      ap (λ t. is_among (updated_ones buffers) b || t) (sym (ap (λ o. is_some o) (stands.pending now b below) ∙ is_some_if (is_pending store b) _))

  told_is : (u f c : Bool) (store : Store D G) (buffers : Buffers) (m : Maps) → StandsFor store m → closed_of store ≡ c → (n : ℕ) → n ≡ blocks_of store
      → changed_below (λ b. (u && f && not c) && is_changed store buffers b) (blocks_of store)
      ≡ (if u && f && not c then changed_below (λ b. is_among (updated_ones buffers) b || is_some (pending_in m.pending b)) n else [])
  told_is true true false store buffers m stands is n size =
      same_below (is_changed store buffers) _ (blocks_of store) (λ b below. changed_is store buffers m stands is b below)
      ∙ ap (λ k. changed_below (λ b. is_among (updated_ones buffers) b || is_some (pending_in m.pending b)) k) (sym size)
  told_is true true true store buffers m stands is n size = none_below (blocks_of store)
  told_is true false c store buffers m stands is n size = none_below (blocks_of store)
  told_is false f c store buffers m stands is n size = none_below (blocks_of store)

  pub undone_is : (forth : Forth D G) (ending : LineEnd) (s : state.Forth) → IsSystem forth s
      → changed_below (λ b. (forth.budget.undoes && has_failed ending forth.place && not (closed_of (store_of forth.blocks))) && is_changed (store_of forth.blocks) (buffers_of forth.blocks) b) (blocks_of (store_of forth.blocks))
      ≡ undone_by ending forth.place s
  undone_is forth ending s is =
      let store = store_of forth.blocks in
      let x = s.world in
      let stands : StandsFor store x.maps = is.represents.rests.maps is.model in
      told_is forth.budget.undoes (has_failed ending forth.place) (closed_of store) store (buffers_of forth.blocks) x.maps stands refl (length x.maps.saved) stands.size
      ∙ ap (λ u. if u && has_failed ending forth.place && not (closed_of store) then changed_below (λ b. is_among (updated_ones (buffers_of forth.blocks)) b || is_some (pending_in x.maps.pending b)) (length x.maps.saved) else []) (sym is.represents.undoes)
      ∙ ap (λ c. if s.undoes && has_failed ending forth.place && not c then changed_below (λ b. is_among (updated_ones (buffers_of forth.blocks)) b || is_some (pending_in x.maps.pending b)) (length x.maps.saved) else []) (sym stands.closed)
      ∙ ap (λ (bs : Buffers). if s.undoes && has_failed ending forth.place && not x.maps.closed then changed_below (λ b. is_among (updated_ones bs) b || is_some (pending_in x.maps.pending b)) (length x.maps.saved) else []) (sym is.represents.rests.buffers)
