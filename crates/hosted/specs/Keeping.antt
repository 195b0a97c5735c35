-- An opening that stays: what is kept of a store between two calls.
use Rattle.std.specs.Prelude.{◌≡◌, ◌⊎◌, ℕ, ◌==◌, if◌then◌else◌, Bool, true, false, List, Option, Some, None, Result, Ok, Err}
use Rattle.sector_disk.specs.Disk.{Image}
use Rattle.sector_disk.specs.declared.device.SectorDevice.{Ghosts}
use Rattle.journal.specs.Maps.{fresh}
use Rattle.journal.specs.declared.store.Store.{Store}
use Rattle.stores.specs.Resting.{HasRested, Rests}
use Rattle.journal.specs.Store.{StandsFor}
use Rattle.hosted.specs.declared.open_store.OpenStore.{OpenStore}
use Rattle.hosted.specs.declared.refusal.Refusal.{Refusal}
use Rattle.hosted.specs.Refusals.{code_of}
use Rattle.hosted.specs.Calls.{MeansOn}
use Rattle.hosted.specs.Saving.{with_blocks}

-- the device after a call, which a refusal hands back
abbrev pub kept_after : {D : Type 0} → Result (D × Bool) (Refusal × D) → D
kept_after (Ok kept) = kept.0
kept_after (Err refused) = refused.1

-- 0 where the call was done
abbrev pub kept_answer : {D : Type 0} → Result (D × Bool) (Refusal × D) → ℕ
kept_answer (Ok kept) = 0
kept_answer (Err refused) = code_of refused.0

-- the answer of a call over a store that isn't open
abbrev pub not_open : ℕ
not_open = 13

-- what the memory of an open store tells: the state of its gate
abbrev pub gate_in : OpenStore → Option Bool
gate_in store = if store.state == 1330660686 then Some true else (if store.state == 1397249364 then Some false else None)

-- It is of the same device.
pub record SamePlace (old new : OpenStore) : Type 0 where
  pub device : new.device ≡ old.device
  pub sectors : new.sectors ≡ old.sectors

module _ {D : Type 0} (G : Ghosts D) where
  -- A store rests on the device, with this state of its gate and this record, and these are its blocks.
  pub record HoldsOpen (device : D) (is_open : Bool) (listing : List ℕ) (saved : List (List ℕ)) : Type 0 where
    pub store : Store D G
    pub rests : Rests G device is_open listing store
    pub stands : StandsFor store (fresh saved)

  -- The image means the blocks of an open store, or those with others put over them that are saved.
  abbrev pub SavesOpen : D → (saved : List (List ℕ)) (blocks bytes : List ℕ) → Image → Type 0
  SavesOpen device saved blocks bytes image = MeansOn G device saved image ⊎ MeansOn G device (with_blocks saved blocks bytes) image

  -- A store stays open that rests on the device.
  abbrev pub StaysOpen : D → OpenStore → Type 0
  StaysOpen device store = (is_open : Bool) × (gate_in store ≡ Some is_open) × HasRested G device is_open store.listing

  -- If the memory tells of an open store, one rests on the device.
  abbrev pub MayStayOpen : D → OpenStore → Type 0
  MayStayOpen device store = (is_open : Bool) → gate_in store ≡ Some is_open → HasRested G device is_open store.listing

  -- A store stays open on the device, with these blocks.
  abbrev pub KeepsOpen : D → OpenStore → (saved : List (List ℕ)) → Type 0
  KeepsOpen device store saved = (is_open : Bool) × (gate_in store ≡ Some is_open) × HoldsOpen device is_open store.listing saved
