-- Why a call is refused, by its arguments or by the image, and the number that C is told.
use Rattle.std.specs.Prelude.{◌≡◌, ◌⊎◌, ℕ, ◌*◌, ◌==◌, not, nat_lt, if◌then◌else◌, List, length, Option, Some, None, option_map, Result, Ok, Err, ⊤}
use Rattle.std.specs.List.{list_all}
use Rattle.sector_disk.specs.Counting.{count_up}
use Rattle.sector_disk.specs.Disk.{Image}
use Rattle.recovery.specs.declared.fault.OpenFault.{OpenFault}
use Rattle.recovery.specs.declared.fault.OpenFault.TheVariants as image
use Rattle.shadow.specs.Label.{is_known_size}
use Rattle.shadow.specs.Upgraded.{known_blocks}
use Rattle.stores.specs.Opened.{image_refusal}
use Rattle.sessions.specs.declared.run_fault.RunFault.{RunFault}
use Rattle.sessions.specs.declared.run_fault.RunFault.TheVariants as run
use Rattle.hosted.specs.declared.refusal.Refusal.{Refusal}
use Rattle.hosted.specs.declared.refusal.Refusal.TheVariants.{BadSize, NoLabel, OtherVersion, WrongCount, Device, Damaged, NoBlock, BadLength, NoSteps, Input, Output, NoMemory}

abbrev pub code_of : Refusal → ℕ
code_of BadSize = 1
code_of NoLabel = 2
code_of OtherVersion = 3
code_of WrongCount = 4
code_of Device = 5
code_of Damaged = 6
code_of NoBlock = 7
code_of BadLength = 8
code_of NoSteps = 9
code_of Input = 10
code_of Output = 11
code_of NoMemory = 12

-- 0 where the call was done
abbrev pub answer_of : {D : Type 0} → Result D (Refusal × D) → ℕ
answer_of (Ok device) = 0
answer_of (Err refused) = code_of refused.0

-- the number of the first test that failed, if one did
abbrev pub number_of : Option Refusal → ℕ
number_of None = 0
number_of (Some e) = code_of e

-- What was told is the first test that failed, or that a call of the device did.
abbrev pub TellsFirst : (answer : ℕ) → Option Refusal → Type 0
TellsFirst answer first = (answer ≡ code_of Device) ⊎ (answer ≡ number_of first)

-- how many calls of the device failed, of what was told: one where that is the device, and else none
abbrev pub failures_told : (answer failures : ℕ) → ℕ
failures_told answer failures = if answer == 5 then count_up failures else failures

-- a fault of an image is told under its own name
abbrev pub of_image : OpenFault → Refusal
of_image image.BadSize = BadSize
of_image image.NoLabel = NoLabel
of_image image.OtherVersion = OtherVersion
of_image image.WrongCount = WrongCount
of_image image.Device = Device
of_image image.Damaged = Damaged

abbrev pub of_run : RunFault → Refusal
of_run run.Read = Input
of_run run.Write = Output

-- the refusal of a block that is read, and of the room for its bytes: the first condition that holds
abbrev pub read_refusal : (sectors block room : ℕ) → Option Refusal
read_refusal sectors block room =
    if not (is_known_size sectors) then Some BadSize
    else (if not (nat_lt block (known_blocks sectors)) then Some NoBlock
    else (if not (room == 1024) then Some BadLength else None))

-- of blocks that are saved, and of their bytes
abbrev pub save_refusal : (sectors : ℕ) (blocks : List ℕ) (room : ℕ) → Option Refusal
save_refusal sectors blocks room =
    if not (is_known_size sectors) then Some BadSize
    else (if not (list_all (λ b. nat_lt b (known_blocks sectors)) blocks) then Some NoBlock
    else (if not (room == 1024 * length blocks) then Some BadLength else None))

-- of the image on a device of so many sectors
abbrev pub refusal_of : (sectors : ℕ) → Image → Option Refusal
refusal_of sectors image = option_map of_image (image_refusal sectors image)

-- The refusal lies with the image or its device.
abbrev pub IsOfImage : Refusal → Type 0
IsOfImage NoBlock = ⊥
IsOfImage BadLength = ⊥
IsOfImage NoSteps = ⊥
IsOfImage Input = ⊥
IsOfImage Output = ⊥
IsOfImage NoMemory = ⊥
IsOfImage refusal = ⊤

-- It lies with the session, over an image that was opened.
abbrev pub IsOfSession : Refusal → Type 0
IsOfSession Input = ⊤
IsOfSession Output = ⊤
IsOfSession NoMemory = ⊤
IsOfSession refusal = ⊥
