-- The exit status of a failure, and the failure that a fault is told as.
use Rattle.std.specs.Prelude.{ℕ, Bool, true, false, Result, Ok, Err}
use Rattle.sector_disk.specs.declared.host_files.FileFault.{FileFault}
use Rattle.sector_disk.specs.declared.host_files.FileFault.TheVariants as file
use Rattle.journal.specs.declared.store.StoreFault.{StoreFault}
use Rattle.recovery.specs.declared.fault.OpenFault.{OpenFault}
use Rattle.recovery.specs.declared.fault.OpenFault.TheVariants as image
use Rattle.recovery.specs.declared.fault.UpgradeFault.{UpgradeFault}
use Rattle.recovery.specs.declared.fault.UpgradeFault.TheVariants.{Old, New}
use Rattle.terminal.specs.declared.failure.Failure.{Failure}
use Rattle.terminal.specs.declared.failure.Failure.TheVariants.{BadSize, NoLabel, OtherVersion, WrongCount, Damaged, Device, Exists, CannotOpen, InUse, NoBlock, CannotRead, NotAScreen, CannotWrite, NoMemory}
use Rattle.terminal.specs.declared.failure.Outcome.{Outcome}
use Rattle.terminal.specs.declared.failure.Outcome.TheVariants.{Done, Stopped}
use Rattle.image_care.specs.declared.all_blocks.ReadFault.{ReadFault}
use Rattle.image_care.specs.declared.all_blocks.ReadFault.TheVariants as reading
use Rattle.sessions.specs.declared.run_end.RunEnd.{RunEnd}
use Rattle.sessions.specs.declared.run_end.RunEnd.TheVariants as by
use Rattle.sessions.specs.declared.run_fault.RunFault.{RunFault}
use Rattle.sessions.specs.declared.run_fault.RunFault.TheVariants.{Read, Write}

-- 3 where it lies with the image, 4 with input or output, 5 with memory
abbrev pub status_of : Failure → ℕ
status_of BadSize = 3
status_of NoLabel = 3
status_of OtherVersion = 3
status_of WrongCount = 3
status_of Damaged = 3
status_of Device = 3
status_of Exists = 3
status_of CannotOpen = 3
status_of InUse = 3
status_of NoBlock = 3
status_of CannotRead = 4
status_of NotAScreen = 4
status_of CannotWrite = 4
status_of NoMemory = 5

-- whether a call of the image's device failed
abbrev pub is_device : Failure → Bool
is_device BadSize = false
is_device NoLabel = false
is_device OtherVersion = false
is_device WrongCount = false
is_device Damaged = false
is_device Device = true
is_device Exists = false
is_device CannotOpen = false
is_device InUse = false
is_device NoBlock = false
is_device CannotRead = false
is_device NotAScreen = false
is_device CannotWrite = false
is_device NoMemory = false

-- a fault of an image is told under its own name
abbrev pub of_image : OpenFault → Failure
of_image image.BadSize = BadSize
of_image image.NoLabel = NoLabel
of_image image.OtherVersion = OtherVersion
of_image image.WrongCount = WrongCount
of_image image.Damaged = Damaged
of_image image.Device = Device

abbrev pub of_reading : ReadFault → Failure
of_reading (reading.Refused fault) = of_image fault
of_reading reading.NoMemory = NoMemory

-- of an upgrade, whichever of both images it is
abbrev pub of_upgrade : UpgradeFault → Failure
of_upgrade (Old fault) = of_image fault
of_upgrade (New fault) = of_image fault

abbrev pub of_file : FileFault → Failure
of_file file.Exists = Exists
of_file file.Cannot = CannotOpen
of_file file.InUse = InUse

-- outside a line a store that was closed is a device that failed
abbrev pub of_store : StoreFault → Failure
of_store fault = Device

abbrev pub of_run : RunFault → Failure
of_run Read = CannotRead
of_run Write = CannotWrite

-- what a session that ended so is told as: done where it came to the end of its input
abbrev pub of_end : Result RunEnd RunFault → Result Outcome Failure
of_end (Ok by.Input) = Ok Done
of_end (Ok by.Failure) = Ok Stopped
of_end (Err fault) = Err (of_run fault)
