-- What is known of a device of which nothing is assumed.
use Rattle.std.proofs.Common.{◌≡◌, Bool, true, false, IsTrue, refl, sym, subst, ◌∙◌}
use Rattle.sector_disk.specs.declared.device.SectorDevice.{Ghosts}
use Rattle.recovery.specs.Label as older
use Rattle.journal.specs.Suits.{suits}
use Rattle.journal.proofs.Suited.{newer_suits, older_suits}

-- A device of which nothing is assumed suits no store.
pub never_suits : {D : Type 0} (G : Ghosts D) (d : D) → G.keeps_model d ≡ false → G.keeps_sectors d ≡ false → IsTrue (suits G d) → ⊥
never_suits G d model units keeps = by (older.is_size (G.sector_count d)) refl
  where
    by : (b : Bool) → older.is_size (G.sector_count d) ≡ b → ⊥
    by true is = let no : IsTrue false = subst IsTrue (older_suits G d is ∙ units) keeps in cc
    by false isnt = let no : IsTrue false = subst IsTrue (newer_suits G d isnt ∙ model) keeps in cc
