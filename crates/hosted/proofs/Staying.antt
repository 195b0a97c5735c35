-- What stays open may stay open, and what isn't open too.
use Rattle.std.proofs.Common.{◌≡◌, ◌∙◌, Some, None, subst, sym}
use Rattle.sector_disk.specs.declared.device.SectorDevice.{Ghosts}
use Rattle.stores.specs.Resting.{HasRested}
use Rattle.hosted.specs.declared.open_store.OpenStore.{OpenStore}
use Rattle.hosted.specs.Keeping.{MayStayOpen, StaysOpen, gate_in}

module _ {D : Type 0} (G : Ghosts D) (device : D) (store : OpenStore) where
  pub may_stay : StaysOpen G device store → MayStayOpen G device store
  may_stay stays is_open is =
      let one : Some stays.0 ≡ Some is_open = sym stays.1 ∙ is in
      let same : stays.0 ≡ is_open = cc in
      subst (λ t. HasRested G device t store.listing) same stays.2

  pub shut_may_stay : gate_in store ≡ None → MayStayOpen G device store
  shut_may_stay shut is_open is = absurd (let no : None ≡ Some is_open = sym shut ∙ is in cc)
