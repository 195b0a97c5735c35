-- A store that goes on where another one rested.
use Rattle.std.proofs.Common.{◌≡◌, ◌∙◌, ℕ, ◌<◌, Some, None, IsTrue, cond, sym, subst, ap}
use Rattle.sector_disk.specs.Disk.{MayLeave}
use Rattle.sector_disk.specs.declared.device.SectorDevice.{Ghosts}
use Rattle.journal.specs.BySize.{Means}
use Rattle.journal.specs.Images.{pair_at}
use Rattle.journal.specs.Resting.{HasRested, Rests, StandsAsRested}
use Rattle.journal.specs.Store.{blocks_of, device_of, is_pending, technique_of}
use Rattle.journal.specs.Suits.{suits}
use Rattle.journal.specs.Technique.{IsSound, saved_at, spilled_at}
use Rattle.journal.specs.declared.store.Store.{Store}
use Rattle.journal.specs.declared.technique.Technique.{Technique}

module _ {D : Type 0} (G : Ghosts D) where
  pub rested_sound : (device : D) (n : ℕ) (technique : Technique) → HasRested G device n technique → IsTrue (suits G device)
      → IsSound technique n (G.disk device)
  rested_sound device n technique rested keeps =
      let store = rested.0 in
      let rests = rested.1 in
      subst (λ d. IsSound technique n (G.disk d)) rests.on
      (subst (λ m. IsSound technique m (G.disk store.device)) rests.count
      (subst (λ t. IsSound t store.blocks.number (G.disk store.device)) rests.how
      (store.sound (subst (λ d. IsTrue (suits G d)) (sym rests.on) keeps) rests.open_still)))

  pub goes_on : (device : D) (n : ℕ) (technique : Technique) (new : Store D G) → Rests G device n technique new
      → StandsAsRested G device n technique new
  goes_on device n technique new now store was m stands =
      let at : device_of store ≡ device_of new = was.on ∙ sym now.on in
      let count : blocks_of store ≡ blocks_of new = was.count ∙ sym now.count in
      let how : technique_of store ≡ technique_of new = was.how ∙ sym now.how in
      record {
        model = subst (λ d. IsTrue (suits G d)) at stands.model;
        closed = stands.closed ∙ was.open_still ∙ sym now.open_still;
        size = stands.size ∙ count;
        pending_size = stands.pending_size ∙ count;
        saved = λ _ b below. stands.saved was.open_still b (subst (λ k. b < k) (sym count) below)
            ∙ (λ i. pair_at (G.disk (at i)).content (saved_at (how i) (count i) b));
        pending = λ _ b below. stands.pending was.open_still b (subst (λ k. b < k) (sym count) below)
            ∙ ap (λ t. cond t (Some (pair_at (G.disk store.device).content (spilled_at store.technique b))) None) (was.none b ∙ sym (now.none b))
            ∙ (λ i. cond (is_pending new b) (Some (pair_at (G.disk (at i)).content (spilled_at (how i) b))) None);
        left = λ _ image may. subst (λ d. Means (G.sector_count d) m.saved image) at
            (stands.left was.open_still image (subst (λ d. MayLeave (G.disk d) image) (sym at) may));
      }
