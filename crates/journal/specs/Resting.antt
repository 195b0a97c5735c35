-- A store that rests: it is open, and nothing was spilled since its last commit. What it knows is its device, how many blocks there are, and
-- its technique.
use Rattle.std.specs.Prelude.{◌≡◌, ℕ, false}
use Rattle.sector_disk.specs.declared.device.SectorDevice.{Ghosts}
use Rattle.journal.specs.declared.store.Store.{Store}
use Rattle.journal.specs.declared.technique.Technique.{Technique}
use Rattle.journal.specs.Maps.{Maps}
use Rattle.journal.specs.Store.{StandsFor, blocks_of, closed_of, device_of, is_pending, technique_of}

module _ {D : Type 0} (G : Ghosts D) where
  -- The store rests on this device, with so many blocks and this technique.
  pub record Rests (device : D) (blocks : ℕ) (technique : Technique) (store : Store D G) : Type 0 where
    pub on : device_of store ≡ device
    pub count : blocks_of store ≡ blocks
    pub how : technique_of store ≡ technique
    pub open_still : closed_of store ≡ false
    pub none : (b : ℕ) → is_pending store b ≡ false

  -- Some store rested there.
  abbrev pub HasRested : D → (blocks : ℕ) → Technique → Type 0
  HasRested device blocks technique = (store : Store D G) × Rests device blocks technique store

  -- The store stands for all that a store stood for which rested there.
  abbrev pub StandsAsRested : D → (blocks : ℕ) → Technique → Store D G → Type 0
  StandsAsRested device blocks technique new =
      (store : Store D G) → Rests device blocks technique store → (m : Maps) → StandsFor store m → StandsFor new m
