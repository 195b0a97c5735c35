-- What `list` and `export` print of an image, however it was opened.
use Rattle.std.specs.Prelude.{◌⊎◌, ℕ, List, Option}
use Rattle.sector_disk.specs.declared.device.SectorDevice.{Ghosts}
use Rattle.terminal.specs.Done.{DoneOn, Exports, ListsBlock}
use Rattle.terminal.specs.Failed.{ReadFailed, RefusesImage}
use Rattle.terminal.specs.Shown.{ShowsBlocks, ShowsImage}
use Rattle.terminal.specs.Standing.{AfterFault, ExportsStanding, ShowsStanding}
use Rattle.terminal.specs.declared.failure.Failure.TheVariants.{Device}
use Rattle.terminal.specs.declared.left.Left.{Left}
use Rattle.terminal.specs.declared.left.Left.TheVariants as files
use Rattle.command_line.specs.declared.orders.Form.{Form}
use Rattle.terminal.specs.declared.deeds.Printing.{Printing}
use Rattle.terminal.specs.declared.deeds.Printing.TheVariants.{List as ListBlock, Export}

module _ {D : Type 0} (G : Ghosts D) where
  -- A block was listed: of an image that was opened for writing after a recovery; or a call failed in that, and it was printed from where
  -- it stands.
  abbrev pub IsListed : (b : ℕ) (written written' : Option (List ℕ)) (device after : D) → Type 0
  IsListed b written written' device after = ListsBlock G b written written' device after
      ⊎ AfterFault (RefusesImage G Device) (ShowsStanding G b written written') device after

  -- The same of blocks that were exported.
  abbrev pub AreExported : (form : Form) (first last : ℕ) (written written' : Option (List ℕ)) (device after : D) → Type 0
  AreExported form first last written written' device after = Exports G form first last written written' device after
      ⊎ AfterFault (RefusesImage G Device) (ExportsStanding G form first last written written') device after

  -- The same of an image that was opened for reading, by reads alone.
  abbrev pub IsShown : (b : ℕ) (written written' : Option (List ℕ)) (device after : D) → Type 0
  IsShown b written written' device after = ShowsImage G b written written' device after
      ⊎ AfterFault (ReadFailed G) (ShowsStanding G b written written') device after

  abbrev pub AreShown : (form : Form) (first last : ℕ) (written written' : Option (List ℕ)) (device after : D) → Type 0
  AreShown form first last written written' device after = ShowsBlocks G form first last written written' device after
      ⊎ AfterFault (ReadFailed G) (ExportsStanding G form first last written written') device after

-- What was printed of an image: `Prints` of one that was opened for writing, `Shows` of one that was opened for reading.
module _ {D : Type 0} (G : Ghosts D) where
  abbrev pub Prints : Printing → (written written' : Option (List ℕ)) (device after : D) → Type 0
  Prints (ListBlock b) = IsListed G b
  Prints (Export first last form) = AreExported G form first last

  abbrev pub Shows : Printing → (written written' : Option (List ℕ)) (device after : D) → Type 0
  Shows (ListBlock b) = IsShown G b
  Shows (Export first last form) = AreShown G form first last

-- Blocks were printed, in one of these ways.
abbrev pub PrintDone : {D E : Type 0} (G : Ghosts D) (L : Ghosts E) (opened : D → Type 0) (looked : E → Type 0) → Printing
    → (written written' : Option (List ℕ)) (left : Left D E) → Type 0
PrintDone G L opened looked asked written written' left =
    DoneOn G files.Opened opened (Prints G asked written written') left ⊎ DoneOn L files.Looked looked (Shows L asked written written') left
