-- All blocks of an image: a digest of each, and what differs between those of two images.
use Rattle.std.specs.Prelude.{◌≡◌, ◌⊎◌, ℕ, zero, suc, ◌+◌, ◌-◌, ◌*◌, ◌/◌, ◌%◌, ◌==◌, max, if◌then◌else◌, IsTrue, List, [], ◌∷◌, ◌++◌, length, map, take, drop, replicate, codes, nat_eq, Option}
use Rattle.std.specs.Cmp.Lexicographic.{pointwise}
use Rattle.std.specs.Fmt.{decimal}
use Rattle.std.specs.Io.KnownBytes.{Appends}
use Rattle.std.specs.List.{concat}
use Rattle.hex.specs.Hex.{encode_lower}
use Rattle.sha2.specs.Sha256.{sha256}
use Rattle.sector_disk.specs.Disk.{Image}
use Rattle.sector_disk.specs.declared.device.SectorDevice.{Ghosts}
use Rattle.journal.specs.Calls.{ReadsAtMost}
use Rattle.image_care.specs.Looked.{reads_to_look}
use Rattle.recovery.specs.Steps.{OnlyRead}
use Rattle.shadow.specs.Upgraded.{known_blocks}
use Rattle.sector_disk.specs.Counting.{count_up}
use Rattle.recovery.specs.Opened.{first_of}
use Rattle.recovery.specs.declared.fault.OpenFault.{OpenFault}
use Rattle.stores.specs.Images.{HasMeaning, meaning}
use Rattle.stores.specs.Opened.{image_refusal}
use Rattle.terminal.specs.Checked.{line}
use Rattle.terminal.specs.Screen.{shown}
use Rattle.terminal.specs.Transfer.{unpadded}

-- the bytes of all blocks that an image with so many sectors means, block 0 first
abbrev pub bytes_of : (sectors : ℕ) → Image → List ℕ
bytes_of sectors image = concat (meaning sectors image)

-- how many reads give them
abbrev pub reads_for_all : (sectors : ℕ) → Image → ℕ
reads_for_all sectors image = reads_to_look sectors image + 2 * known_blocks sectors

-- ---- a digest of each

-- the line of block b, which has these bytes
abbrev pub digest_line : (b : ℕ) → List ℕ → List ℕ
digest_line b block = line (codes "block " ++ decimal b) (encode_lower (sha256 block))

-- the lines of n blocks with these bytes, of which the first is block b
abbrev pub digest_lines : (b n : ℕ) → List ℕ → List ℕ
digest_lines b zero bytes = []
digest_lines b (suc n) bytes = digest_line b (take 1024 bytes) ++ digest_lines (suc b) n (drop 1024 bytes)

-- the lines of blocks with these bytes
abbrev pub digest_report : List ℕ → List ℕ
digest_report bytes = digest_lines 0 (length bytes / 1024) bytes

-- ---- what differs

-- a row after a mark, without the blanks at its end
abbrev pub marked : (mark : List ℕ) → List ℕ → List ℕ
marked mark row = mark ++ map shown (unpadded row) ++ 10 ∷ []

-- what is told of row k, 16 of which are a block, where it differs: its block and its line, counted from 1, how it was, and how it is
abbrev pub change : (k : ℕ) → (old new : List ℕ) → List ℕ
change k old new =
    if pointwise nat_eq old new then []
    else (codes "block " ++ decimal (k / 16) ++ codes " line " ++ decimal (k % 16 + 1) ++ 10 ∷ [])
    ++ marked (codes "- ") old ++ marked (codes "+ ") new

-- the same of n rows, of which the first is row k
abbrev pub changes : (k n : ℕ) → (old new : List ℕ) → List ℕ
changes k zero old new = []
changes k (suc n) old new = change k (take 64 old) (take 64 new) ++ changes (suc k) n (drop 64 old) (drop 64 new)

-- so many bytes: these, and blanks after them
abbrev pub padded : ℕ → List ℕ → List ℕ
padded n bytes = take n bytes ++ replicate (n - length bytes) 32

-- how many blocks there are, where that differs
abbrev pub counts : (old new : ℕ) → List ℕ
counts old new = if old == new then [] else line (codes "blocks") (decimal old ++ codes " and " ++ decimal new)

-- what differs between blocks with these bytes; what only one image has is compared with blanks
abbrev pub differences : (old new : List ℕ) → List ℕ
differences old new =
    counts (length old / 1024) (length new / 1024)
    ++ changes 0 (max (length old) (length new) / 64) (padded (max (length old) (length new)) old) (padded (max (length old) (length new)) new)

module _ {D : Type 0} (G : Ghosts D) where
  -- the bytes of the blocks that the image on the device means
  abbrev pub bytes_on : D → List ℕ
  bytes_on device = bytes_of (G.sector_count device) (G.disk device).content

  -- the refusal of the image on the device
  abbrev pub refusal_on : D → Option OpenFault
  refusal_on device = image_refusal (G.sector_count device) (G.disk device).content

  -- that of two images: of the first one, and where that isn't refused of the second one
  abbrev pub refusal_of_either : (old new : D) → Option OpenFault
  refusal_of_either old new = first_of (refusal_on old) (refusal_on new)

  -- One of two devices failed, once, and the other not.
  abbrev pub OneFailed : (old old' new new' : D) → Type 0
  OneFailed old old' new new' =
      ((G.failures old' ≡ count_up (G.failures old)) × (G.failures new' ≡ G.failures new))
      ⊎ ((G.failures old' ≡ G.failures old) × (G.failures new' ≡ count_up (G.failures new)))

  -- The image on the device, which has a meaning, was read, and no more of it than this asks for. Nothing was written or synced, so a
  -- stop at any moment leaves what one could leave before.
  pub record Reads (device after : D) : Type 0 where
    pub only : OnlyRead G device after
    pub meant : IsTrue (G.keeps_model device) → HasMeaning (G.sector_count device) (G.disk device).content
    pub reads : IsTrue (G.keeps_model device)
        → ReadsAtMost G device after (reads_for_all (G.sector_count device) (G.disk device).content)

  -- `check --blocks`: a line of each block was printed, by reads alone.
  pub record TellsEach (written written' : Option (List ℕ)) (device after : D) : Type 0 where
    pub read : Reads device after
    pub told : IsTrue (G.keeps_model device) → Appends written written' (digest_report (bytes_on device))

  -- `diff`: what differs between the blocks of two images was printed, by reads alone.
  pub record Compares (written written' : Option (List ℕ)) (old old' new new' : D) : Type 0 where
    pub before : Reads old old'
    pub after : Reads new new'
    pub told : IsTrue (G.keeps_model old) → IsTrue (G.keeps_model new)
        → Appends written written' (differences (bytes_on old) (bytes_on new))
