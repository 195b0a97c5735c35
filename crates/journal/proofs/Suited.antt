-- What a device keeps that suits a store, by its size.
use Rattle.std.proofs.Common.{◌≡◌, Bool, true, false, IsTrue, sym, ◌∙◌, ap, subst}
use Rattle.std.specs.Prelude.{if◌then◌else◌}
use Rattle.sector_disk.specs.declared.device.SectorDevice.{Ghosts}
use Rattle.journal.specs.Sizes.{is_size}
use Rattle.journal.specs.Suits.{suits}

module _ {D : Type 0} (G : Ghosts D) where
  -- of a size of layout 2
  pub older_suits : (d : D) → is_size (G.sector_count d) ≡ true → suits G d ≡ G.keeps_sectors d
  unfolding suits
  older_suits d is = ap (λ b. if b then G.keeps_sectors d else G.keeps_model d) is

  -- and of another one
  pub newer_suits : (d : D) → is_size (G.sector_count d) ≡ false → suits G d ≡ G.keeps_model d
  unfolding suits
  newer_suits d isnt = ap (λ b. if b then G.keeps_sectors d else G.keeps_model d) isnt

  pub suits_older : (d : D) → is_size (G.sector_count d) ≡ true → IsTrue (suits G d) → IsTrue (G.keeps_sectors d)
  suits_older d is keeps = subst IsTrue (older_suits d is) keeps

  pub suits_newer : (d : D) → is_size (G.sector_count d) ≡ false → IsTrue (suits G d) → IsTrue (G.keeps_model d)
  suits_newer d isnt keeps = subst IsTrue (newer_suits d isnt) keeps

  -- Sectors and model stay, so the device suits the store as it did.
  pub older_stays : (d e : D) → is_size (G.sector_count d) ≡ true → G.sector_count e ≡ G.sector_count d → G.keeps_sectors e ≡ G.keeps_sectors d
      → suits G e ≡ suits G d
  older_stays d e is sectors units = older_suits e (ap is_size sectors ∙ is) ∙ units ∙ sym (older_suits d is)

  pub newer_stays : (d e : D) → is_size (G.sector_count d) ≡ false → G.sector_count e ≡ G.sector_count d → G.keeps_model e ≡ G.keeps_model d
      → suits G e ≡ suits G d
  newer_stays d e isnt sectors model = newer_suits e (ap is_size sectors ∙ isnt) ∙ model ∙ sym (newer_suits d isnt)

  -- whatever the size is
  pub stays : (d e : D) → G.sector_count e ≡ G.sector_count d → G.keeps_model e ≡ G.keeps_model d → G.keeps_sectors e ≡ G.keeps_sectors d
      → suits G e ≡ suits G d
  unfolding suits
  stays d e sectors model units = λ t. if is_size (sectors t) then units t else model t

  -- By sectors it suits a store of either layout.
  pub sectors_suit : ((d : D) → IsTrue (G.keeps_sectors d) → IsTrue (G.keeps_model d)) → (d : D) → IsTrue (G.keeps_sectors d) → IsTrue (suits G d)
  unfolding suits
  sectors_suit both d keeps = either (is_size (G.sector_count d))
    where
      either : (t : Bool) → IsTrue (if t then G.keeps_sectors d else G.keeps_model d)
      either true = keeps
      either false = both d keeps

  -- what suits a store keeps the disk model
  pub suits_keeps : ((d : D) → IsTrue (G.keeps_sectors d) → IsTrue (G.keeps_model d)) → (d : D) → IsTrue (suits G d) → IsTrue (G.keeps_model d)
  unfolding suits
  suits_keeps both d = either (is_size (G.sector_count d))
    where
      either : (t : Bool) → IsTrue (if t then G.keeps_sectors d else G.keeps_model d) → IsTrue (G.keeps_model d)
      either true keeps = both d keeps
      either false keeps = keeps
