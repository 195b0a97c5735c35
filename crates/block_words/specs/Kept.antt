-- Saves, and what a stop may leave of them.
use Rattle.std.specs.Prelude.{◌≡◌, ◌⊎◌, ℕ, ◌≤◌, true, List, [], ◌∷◌}
use Rattle.block_words.specs.Words.{Save}

module _ {Image : Type 0} (means : Image → List (List ℕ) → Type 0) where
  -- an image means one of these maps
  abbrev pub MeansOneOf : List (List ℕ) → List Save → Image → Type 0
  MeansOneOf map [] image = means image map
  MeansOneOf map (save ∷ saves) image = means image map ⊎ MeansOneOf save.map saves image

  -- each image that counts since t means one of the maps, and once a save had returned, none of those before it
  abbrev pub KeptFrom : (left_since : ℕ → Image → Type 0) (now : ℕ) → List (List ℕ) → List Save → ℕ → Type 0
  KeptFrom left_since now map [] t = (image : Image) → left_since t image → means image map
  KeptFrom left_since now map (save ∷ saves) t =
      ((image : Image) → left_since t image → MeansOneOf map (save ∷ saves) image)
      × (save.returned ≡ true → (u : ℕ) × (t ≤ u) × (u ≤ now) × KeptFrom left_since now save.map saves u)

-- the map after the last of these saves
abbrev pub last_map : List (List ℕ) → List Save → List (List ℕ)
last_map map [] = map
last_map map (save ∷ saves) = last_map save.map saves
