-- Which state of the definitions a system represents: the world, and within a line what is left to do.
use Rattle.std.specs.Prelude.{◌≡◌, List, IsTrue, Result, Ok, Err}
use Rattle.sector_disk.specs.declared.device.SectorDevice.{Ghosts}
use Rattle.journal.specs.Store.{StandsFor, device_of}
use Rattle.journal.specs.Suits.{suits}
use Rattle.block_words.specs.Parts.{store_of, buffers_of}
use Rattle.cell_machine.specs.Frames.{Core, Level}
use Rattle.interpreter.specs.State.{World}
use Rattle.lexicon.specs.Stands.{Stands as Means, IsLeft}
use Rattle.interpreter.specs.Lexicon.{language_of}
use Rattle.stacks.specs.declared.return_stack.Entry.{Entry}
use Rattle.block_words.specs.declared.buffered_blocks.Blocks.{Blocks}
use Rattle.cell_machine.specs.Events.{Doing}
use Rattle.lexicon.specs.declared.language.Lexicon.{Lexicon}
use Rattle.interpreter.specs.declared.forth.Picture.{Picture}
use Rattle.interpreter.specs.declared.forth.Forth.{Forth}
use Rattle.interpreter.specs.declared.place.Place.{Place}
use Rattle.interpreter.specs.Told.{AreStarts}

module _ {D : Type 0} {G : Ghosts D} where
  abbrev pub device : Forth D G → D
  device forth = device_of (store_of forth.blocks)

  -- the device keeps the disk model
  abbrev pub HasModel : Forth D G → Type 0
  HasModel forth = IsTrue (suits G (device forth))

  -- data stack, data space and the steps that are left
  abbrev pub core : Forth D G → Core
  core forth = record { stack = forth.stack; space = forth.space; steps = forth.steps }

  -- The world, in any run. Over a device that doesn't keep the disk model the maps may be any.
  pub record RepresentsWorldIn (lexicon : Lexicon) (picture : Picture) (blocks : Blocks D G) (starts : List Place) (x : World) : Type 0 where
    pub meant : Means lexicon (language_of x)
    pub held_end : x.held_end ≡ picture.end
    pub held : x.held ≡ picture.held
    pub buffers : x.buffers ≡ buffers_of blocks
    pub loads : AreStarts x.loads starts
    pub maps : IsTrue (suits G (device_of (store_of blocks))) → StandsFor (store_of blocks) x.maps

  -- and what is left to do
  pub record RepresentsIn (lexicon : Lexicon) (machine : Doing) (returns : List Entry) (picture : Picture) (blocks : Blocks D G) (starts : List Place) (levels : List Level) (x : World) : Type 0 where
    pub rests : RepresentsWorldIn lexicon picture blocks starts x
    pub left : IsLeft lexicon (language_of x) machine returns levels

  -- the world, as it is while nothing is said of what is left to do
  abbrev pub RepresentsWorld : Forth D G → World → Type 0
  RepresentsWorld forth x = RepresentsWorldIn forth.lexicon forth.picture forth.blocks forth.loads x

  abbrev pub Represents : Forth D G → List Level → World → Type 0
  Represents forth levels x = RepresentsIn forth.lexicon forth.machine forth.returns forth.picture forth.blocks forth.loads levels x

  -- where the line ended nothing is known of what was left to do
  abbrev pub RepresentsAfter : {A E : Type 0} → Result A E → Forth D G → List Level → World → Type 0
  RepresentsAfter (Ok _) forth levels x = Represents forth levels x
  RepresentsAfter (Err _) forth levels x = RepresentsWorld forth x

  -- The invariant within a line: there is something to go on with.
  abbrev pub IsSound : Forth D G → Type 0
  IsSound forth = (levels : List Level) × (x : World) × Represents forth levels x

  -- the invariant between two lines
  abbrev pub IsSoundBetweenLines : Forth D G → Type 0
  IsSoundBetweenLines forth = (x : World) × RepresentsWorld forth x
