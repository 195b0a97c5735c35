-- A store of either layout that rests: it is open, and nothing was spilled since its last commit. Beside its device it knows, by layout 3,
-- whether the gate is open, and the record that the gate names.
use Rattle.std.specs.Prelude.{◌≡◌, ℕ, Bool, false, List, ⊤}
use Rattle.sector_disk.specs.declared.device.SectorDevice.{Ghosts}
use Rattle.journal.specs.Maps.{Maps}
use Rattle.journal.specs.Store.{StandsFor, closed_of, device_of, is_pending, technique_of}
use Rattle.journal.specs.declared.store.Store.{Store}
use Rattle.journal.specs.declared.technique.Technique.{Technique}
use Rattle.journal.specs.declared.technique.Technique.TheVariants.{Journal, Pages}

-- By layout 3 the gate is in this state, and names this record.
abbrev pub Names : Technique → (is_open : Bool) (listing : List ℕ) → Type 0
Names Journal is_open listing = ⊤
Names (Pages named) is_open listing = (named.is_open ≡ is_open) × (named.listing ≡ listing)

module _ {D : Type 0} (G : Ghosts D) where
  -- The store rests on this device, with this state of the gate and this record.
  pub record Rests (device : D) (is_open : Bool) (listing : List ℕ) (store : Store D G) : Type 0 where
    pub on : device_of store ≡ device
    pub names : Names (technique_of store) is_open listing
    pub open_still : closed_of store ≡ false
    pub none : (b : ℕ) → is_pending store b ≡ false

  -- Some store rested there.
  abbrev pub HasRested : D → (is_open : Bool) (listing : List ℕ) → Type 0
  HasRested device is_open listing = (store : Store D G) × Rests device is_open listing store

  -- The store stands for all that a store stood for which rested there.
  abbrev pub StandsAsRested : D → (is_open : Bool) (listing : List ℕ) → Store D G → Type 0
  StandsAsRested device is_open listing new = (store : Store D G) → Rests device is_open listing store → (m : Maps) → StandsFor store m → StandsFor new m
