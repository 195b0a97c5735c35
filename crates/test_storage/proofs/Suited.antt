-- What suits a store of either layout, and what each layout asks for.
use Rattle.std.proofs.Common.{◌≡◌, true, false, IsTrue, Bool}
use Rattle.std.specs.Prelude.{if◌then◌else◌}
use Rattle.sector_disk.specs.declared.device.SectorDevice.{Ghosts}
use Rattle.journal.specs.Layouts.{asks}
use Rattle.journal.specs.declared.sizes.Layout.{Layout}
use Rattle.journal.specs.declared.sizes.Layout.TheVariants.{Journal, Pages}
use Rattle.recovery.specs.Label.{is_size}
use Rattle.journal.specs.Suits.{suits}

either : (b : Bool) {x y : Bool} → IsTrue x → IsTrue y → IsTrue (if b then x else y)
either true x y = x
either false x y = y

-- a device that keeps the model, and by sectors
pub both : {D : Type 0} (G : Ghosts D) (d : D) → IsTrue (G.keeps_sectors d) → IsTrue (G.keeps_model d) → IsTrue (suits G d)
unfolding suits
both G d sectors model = either (is_size (G.sector_count d)) sectors model

pub by_layout : {D : Type 0} (G : Ghosts D) (d : D) → IsTrue (G.keeps_sectors d) → IsTrue (G.keeps_model d) → (layout : Layout) → IsTrue (asks G layout d)
by_layout G d sectors model Journal = sectors
by_layout G d sectors model Pages = model
