-- Files that are only read: those of the system, and what was read of one that another program writes.
use Rattle.std.specs.Prelude.{◌≡◌, ◌<◌, ℕ, ◌*◌, Bool, true, false, not, List, [], length, slice_index, take, Option, Some, None, ⊤}
use Rattle.sector_disk.specs.FileBytes.{FileBytes, disk_of_file}
use Rattle.shadow.specs.Label.{is_size}
use Rattle.stores.specs.Images.{HasMeaning}
use Rattle.image_care.specs.declared.reading_files.ReadOnlyFile.{ReadOnlyFile}
use Rattle.image_care.specs.declared.reading_files.ReadOnlyFile.TheVariants.{Live, Still}

-- bytes as a file of which nothing is unsynced
abbrev pub still : List ℕ → FileBytes
still bytes = record {
  content = λ p. slice_index bytes p;
  synced = λ p. slice_index bytes p;
  unsynced = λ _. false;
  unit = λ k. k;
}

-- The bytes are those of an image of layout 3 that has a meaning.
pub record IsWholeImage (bytes : List ℕ) : Type 0 where
  pub sectors : ℕ
  pub length : length bytes ≡ 512 * sectors
  pub newer : is_size sectors ≡ true
  pub meant : HasMeaning sectors (disk_of_file (still bytes)).content

-- ---- what is read of a file, again and again

-- What a reading of so many sectors gave is no image: it failed, or its bytes have no meaning.
abbrev pub IsNoImage : (sectors : ℕ) → Option (List ℕ) → Type 0
IsNoImage sectors None = ⊤
IsNoImage sectors (Some bytes) = HasMeaning sectors (disk_of_file (still bytes)).content → ⊥

-- A reading that may give this gave something that is no image.
abbrev pub GaveNoImage : (sectors : ℕ) → (given : Option (List ℕ) → Type 0) → Type 0
GaveNoImage sectors given = (what : Option (List ℕ)) × given what × IsNoImage sectors what

-- Each of so many readings, of which this says what each may give, gave no image.
abbrev pub NoneIsWhole : (sectors tries : ℕ) → (gives : ℕ → Option (List ℕ) → Type 0) → Type 0
NoneIsWhole sectors tries gives = (k : ℕ) → k < tries → GaveNoImage sectors (gives k)

-- One of them gave these bytes.
abbrev pub IsOneOf : (tries : ℕ) → (gives : ℕ → Option (List ℕ) → Type 0) → (bytes : List ℕ) → Type 0
IsOneOf tries gives bytes = (k : ℕ) × (k < tries) × gives k (Some bytes)

-- What a reading gives of bytes that nobody writes: the first ones, or it fails where there are fewer.
abbrev pub IsReadOf : (bytes : List ℕ) (room : ℕ) → Option (List ℕ) → Type 0
IsReadOf bytes room None = length bytes < room
IsReadOf bytes room (Some given) = given ≡ take room bytes

-- ---- files

-- whether it lies in memory
abbrev pub is_still : ReadOnlyFile → Bool
is_still (Live file len) = false
is_still (Still bytes) = true

-- the bytes of one that does
abbrev pub items_of : ReadOnlyFile → List ℕ
items_of (Live file len) = []
items_of (Still bytes) = bytes.items

-- What lies in memory is synced. Of a file of the system nothing is known.
abbrev pub bytes_of : ReadOnlyFile → FileBytes
bytes_of file = record {
  content = λ p. slice_index (items_of file) p;
  synced = λ p. slice_index (items_of file) p;
  unsynced = λ _. not (is_still file);
  unit = λ k. k;
}

-- What lies in memory is there only where that is asked for, and is a whole image.
abbrev pub IsGiven : (takes_copies : Bool) → ReadOnlyFile → Type 0
IsGiven takes_copies (Live file len) = ⊤
IsGiven takes_copies (Still bytes) = (takes_copies ≡ true) × IsWholeImage bytes.items
