-- Where the word begins that asks for a load, as the code keeps it.
use Rattle.std.specs.Prelude.{ℕ, List}
use Rattle.sector_disk.specs.declared.device.SectorDevice.{Ghosts}
use Rattle.block_words.specs.declared.buffered_blocks.Blocks.{Blocks}
use Rattle.interpreter.specs.declared.place.Place.{Place}
use Rattle.interpreter.specs.Told.{first_byte, text_around}

-- Of a load that is asked for at this place: in the same block, where the last word before it begins in the text around it, as that is now.
abbrev pub start_now : {D : Type 0} {G : Ghosts D} → Place → Blocks D G → (space : List ℕ) → Place
start_now place blocks space = record { block = place.block; to_in = first_byte place.to_in (text_around place blocks space) }
