-- A store stands for maps, if its device suits it.
use Rattle.std.proofs.Common.{◌≡◌, ℕ, zero, suc, ◌<◌, List, [], ◌∷◌, length, Some, None, refl, ap, IsTrue, arith}
use Rattle.std.specs.Prelude.{if◌then◌else◌, slice_index_or}
use Rattle.sector_disk.specs.Disk.{MayLeave}
use Rattle.sector_disk.specs.declared.device.SectorDevice.{Ghosts}
use Rattle.journal.specs.Images.{blocks_below}
use Rattle.journal.specs.Maps.{Maps}
use Rattle.journal.specs.Store.{StandsFor, blocks_of, closed_of, device_of, disk_of, is_pending, technique_of}
use Rattle.journal.specs.Suits.{suits}
use Rattle.journal.specs.Technique.{saved_of, spilled_of}
use Rattle.journal.specs.declared.store.Store.{Store}
use Rattle.journal.proofs.Blocks.{at_below, length-below}
use Rattle.journal.proofs.Stores.{has_means}
use Rattle.journal.proofs.Suited.{suits_keeps}
use Rattle.journal.proofs.Techniques.{sound_left}

-- f at 0, 1 and so on: n values
abbrev pub values : {A : Type 0} → (ℕ → A) → ℕ → List A
values f zero = []
values f (suc n) = f 0 ∷ values (λ k. f (suc k)) n

length-values : {A : Type 0} (f : ℕ → A) (n : ℕ) → length (values f n) ≡ n
length-values f zero = refl
length-values f (suc n) = ap suc (length-values (λ k. f (suc k)) n)

at_values : {A : Type 0} (f : ℕ → A) (none : A) (n b : ℕ) → b < n → slice_index_or (values f n) b none ≡ f b
at_values f none zero b below = absurd (omega (arith, below))
at_values f none (suc n) zero below = refl
at_values f none (suc n) (suc b) below = at_values (λ k. f (suc k)) none n b (omega (arith, below))

module _ {D : Type 0} {G : Ghosts D} where
  -- the maps that are kept in a store: the saved blocks, what was spilled, and whether it is closed
  abbrev pub own_maps : Store D G → Maps
  own_maps store =
      let image = (disk_of store).content in
      let n = blocks_of store in
      record {
        saved = blocks_below (saved_of (technique_of store) n image) n;
        pending = values (λ b. if is_pending store b then Some (spilled_of (technique_of store) image b) else None) n;
        closed = closed_of store;
      }

  module _ (present : (d : D) → IsTrue (G.keeps_model d) → MayLeave (G.disk d) (G.disk d).content)
      (keeps_both : (d : D) → IsTrue (G.keeps_sectors d) → IsTrue (G.keeps_model d)) where
    pub stands_for_own : (store : Store D G) → IsTrue (suits G (device_of store)) → StandsFor store (own_maps store)
    stands_for_own store keeps =
        let n = blocks_of store in
        let saved = saved_of (technique_of store) n (disk_of store).content in
        let size = length-below saved n in
        record {
          model = keeps;
          closed = refl;
          size = size;
          pending_size = length-values _ n;
          saved = λ now b below. at_below saved n b below;
          pending = λ now b below. at_values _ None n b below;
          left = λ now c may. has_means store saved (blocks_below saved n) c size (λ b below. at_below saved n b below)
              (sound_left (technique_of store) n (disk_of store) (present (device_of store) (suits_keeps G keeps_both (device_of store) keeps)) (store.sound keeps now)
              (λ k. ⊥) (λ k none. absurd none) c (λ k _ synced. may k synced));
        }
