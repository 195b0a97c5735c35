-- A text that was made a block of a store.
use Rattle.std.specs.Prelude.{◌≡◌, ◌⊎◌, ℕ, false, List, Some}
use Rattle.sector_disk.specs.declared.device.SectorDevice.{Ghosts}
use Rattle.journal.specs.declared.store.Store.{Store}
use Rattle.journal.specs.Calls.{StopsLeave}
use Rattle.journal.specs.Maps.{Maps, committed, latest, spilled}
use Rattle.journal.specs.Store.{MeansBy, StandsFor, device_of}
use Rattle.terminal.specs.Done.{SavesBlock}
use Rattle.terminal.specs.Screen.{screen_of}

module _ {D : Type 0} {G : Ghosts D} where
  -- The lines of such a text were made this block, in one save, and no other block was changed.
  pub record PutsSome (is_text : List ℕ → Type 0) (old new : Store D G) (block : ℕ) : Type 0 where
    pub saved : (m : Maps) → StandsFor old m → (text : List ℕ) × is_text text × (bytes : List ℕ) × (screen_of text ≡ Some bytes)
        × StandsFor new (committed (spilled m block bytes)) × SavesBlock G m block bytes (device_of old) (device_of new)

  -- A stop of an open store at any moment leaves the saved blocks, or these with the lines of such a text in this block.
  pub record LeavesSome (is_text : List ℕ → Type 0) (old new : Store D G) (block : ℕ) : Type 0 where
    pub left : (m : Maps) → StandsFor old m → m.closed ≡ false
        → StopsLeave G (device_of old) (device_of new)
        (λ image. MeansBy old m.saved image ⊎ ((text : List ℕ) × is_text text × (bytes : List ℕ) × (screen_of text ≡ Some bytes)
        × MeansBy old (latest (spilled m block bytes)) image))
