-- What one call keeps and the next one keeps, both keep.
use Rattle.std.specs.Prelude.{◌≡◌, ℕ, ◌++◌, Bool, true, false, List, []}
use Rattle.sector_disk.specs.Moments.{Elapses}
use Rattle.sector_disk.specs.declared.device.SectorDevice.{Ghosts}
use Rattle.block_words.specs.Words.{Save}
use Rattle.block_words.specs.Kept.{last_map}
use Rattle.block_words.specs.Calls.{CallKeeps}

-- The first call leads from old to mid and makes some saves, the second from mid to new and makes more. A closed store
-- stays closed and begins no save, and an open one has the last map.
abbrev pub KeepsOn : {D : Type 0} → Ghosts D → Type 0
KeepsOn {D} G = (was_closed is_closed : Bool) (old mid new : D) (map saved : List (List ℕ)) (made more : List Save)
    → Elapses G.time G.left_since old mid → Elapses G.time G.left_since mid new
    → (was_closed ≡ true → is_closed ≡ true) → (is_closed ≡ false → saved ≡ last_map map made) → (is_closed ≡ true → more ≡ [])
    → CallKeeps G was_closed old mid map made → CallKeeps G is_closed mid new saved more
    → CallKeeps G was_closed old new map (made ++ more)
