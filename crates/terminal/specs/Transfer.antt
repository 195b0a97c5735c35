-- Many blocks at once: as they are exported, and as they are imported.
use Rattle.std.specs.Prelude.{◌≡◌, ◌<◌, ℕ, zero, suc, ◌-◌, List, [], ◌∷◌, ◌++◌, length, map, replicate, take, drop}
use Rattle.sector_disk.specs.Disk.{Image}
use Rattle.sector_disk.specs.declared.device.SectorDevice.{Ghosts}
use Rattle.data_space.specs.Blanks.{trimmed}
use Rattle.journal.specs.declared.store.Store.{Store}
use Rattle.journal.specs.Maps.{Maps, contents, spilled}
use Rattle.journal.specs.Store.{Continues, DeviceBegins, DeviceReads, KeepsSaved, StandsFor, closed_of}
use Rattle.image_care.specs.View.{found_by}
use Rattle.image_care.specs.declared.view.View.{View}
use Rattle.command_line.specs.declared.orders.Form.{Form}
use Rattle.command_line.specs.declared.orders.Form.TheVariants.{Text, Raw}
use Rattle.terminal.specs.Findings.{blocks_for}
use Rattle.terminal.specs.Screen.{shown}

-- a line without the blanks at its end
abbrev pub unpadded : List ℕ → List ℕ
unpadded line = take (trimmed line) line

-- the first n rows as they are listed, but without the blanks at their ends
abbrev pub exported_text : ℕ → List ℕ → List ℕ
exported_text zero bytes = []
exported_text (suc n) bytes = map shown (unpadded (take 64 bytes)) ++ 10 ∷ exported_text n (drop 64 bytes)

-- a block as 16 lines, or as it is
abbrev pub exported : Form → List ℕ → List ℕ
exported Text block = exported_text 16 block
exported Raw block = block

-- n blocks from b on, one after another
abbrev pub exports : Form → Maps → (b n : ℕ) → List ℕ
exports form m b zero = []
exports form m b (suc n) = exported form (contents m b) ++ exports form m (suc b) n

-- What a look has found of each block of the image are the blocks of these maps.
abbrev pub IsFound : View → Image → Maps → Type 0
IsFound view image m = (b : ℕ) → b < view.blocks.number → found_by view image b ≡ contents m b

-- a block that begins with these bytes; blanks fill it up
abbrev pub block_of : List ℕ → List ℕ
block_of bytes = take 1024 bytes ++ replicate (1024 - length (take 1024 bytes)) 32

-- the first n blocks of bytes
abbrev pub cut : ℕ → List ℕ → List (List ℕ)
cut zero bytes = []
cut (suc n) bytes = block_of bytes ∷ cut n (drop 1024 bytes)

-- bytes as blocks
abbrev pub as_blocks : List ℕ → List (List ℕ)
as_blocks bytes = cut (blocks_for (length bytes)) bytes

-- after spills of these blocks, from block b on
abbrev pub spilled_from : Maps → ℕ → List (List ℕ) → Maps
spilled_from m b [] = m
spilled_from m b (bytes ∷ blocks) = spilled_from (spilled m b bytes) (suc b) blocks

-- A store was read by so many calls of its device at most, and nothing was written.
pub record ReadsStore {D : Type 0} {G : Ghosts D} (old new : Store D G) (most : ℕ) : Type 0 where
  pub state : (m : Maps) → StandsFor old m → StandsFor new m
  pub shuts : closed_of new ≡ closed_of old
  pub stops : KeepsSaved old new
  pub continues : Continues old new
  pub begins : DeviceBegins old new 0 0
  pub reads : DeviceReads old new most
