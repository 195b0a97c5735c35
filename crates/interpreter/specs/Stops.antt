-- The stops of the code, as the endings of the definitions.
use Rattle.std.specs.Prelude.{ℕ}
use Rattle.sector_disk.specs.Counting.{count_up}
use Rattle.block_words.specs.declared.buffered_blocks.BlockFault.{BlockFault}
use Rattle.block_words.specs.declared.buffered_blocks.BlockFault.TheVariants as blocks
use Rattle.cell_machine.specs.Fault as fault
use Rattle.cell_machine.specs.Fault.{Ending, Faults, Quits, Aborts, Breaks}
use Rattle.interpreter.specs.declared.fault.Fault.{Fault}
use Rattle.interpreter.specs.declared.fault.Fault.TheVariants as found
use Rattle.interpreter.specs.declared.fault.Stop.{Stop}
use Rattle.interpreter.specs.declared.fault.Stop.TheVariants as stop

abbrev pub fault_of : Fault → fault.Fault
fault_of found.Undefined = fault.Fault.Undefined
fault_of found.StackEmpty = fault.Fault.StackEmpty
fault_of found.StackFull = fault.Fault.StackFull
fault_of found.ReturnStack = fault.Fault.ReturnStack
fault_of found.Address = fault.Fault.Address
fault_of found.Division = fault.Fault.Division
fault_of found.Base = fault.Fault.Base
fault_of found.Number = fault.Fault.Number
fault_of found.Name = fault.Fault.Name
fault_of found.CompileOnly = fault.Fault.CompileOnly
fault_of found.NoDefinition = fault.Fault.NoDefinition
fault_of found.Unbalanced = fault.Fault.Unbalanced
fault_of found.DefinitionOpen = fault.Fault.DefinitionOpen
fault_of found.Token = fault.Fault.Token
fault_of found.Protected = fault.Fault.Protected
fault_of found.DictionaryFull = fault.Fault.DictionaryFull
fault_of found.CodeFull = fault.Fault.CodeFull
fault_of found.DataSpace = fault.Fault.DataSpace
fault_of found.Hold = fault.Fault.Hold
fault_of found.NoBlock = fault.Fault.NoBlock
fault_of found.NoBuffer = fault.Fault.NoBuffer
fault_of found.LoadDepth = fault.Fault.LoadDepth
fault_of found.Steps = fault.Fault.Steps
fault_of found.Device = fault.Fault.Device
fault_of found.Closed = fault.Fault.Closed
fault_of found.Memory = fault.Fault.Memory
fault_of found.LineLength = fault.Fault.LineLength
fault_of found.EndOfInput = fault.Fault.EndOfInput

abbrev pub ending_of : Stop → Ending
ending_of (stop.Fault f) = Faults (fault_of f)
ending_of stop.Quit = Quits
ending_of stop.Abort = Aborts
ending_of stop.Io = Breaks

-- the device's count of failures where a fault is told: one more for DEVICE
abbrev pub fault_count : Fault → ℕ → ℕ
fault_count found.Device count = count_up count
fault_count _ count = count

-- the same where the blocks refused a word
abbrev pub block_count : BlockFault → ℕ → ℕ
block_count blocks.Device count = count_up count
block_count _ count = count

-- the same where the line is stopped
abbrev pub stop_count : Stop → ℕ → ℕ
stop_count (stop.Fault f) count = fault_count f count
stop_count _ count = count
