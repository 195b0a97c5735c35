-- What a copy makes of an image, and which devices it refuses.
use Rattle.std.specs.Prelude.{ℕ, ◌-◌, ◌&&◌, not, nat_le, if◌then◌else◌, Bool, List, ◌++◌, length, Option, Some, None}
use Rattle.sector_disk.specs.Disk.{Image}
use Rattle.recovery.specs.Formatted.{blank_blocks}
use Rattle.recovery.specs.Label as journal
use Rattle.recovery.specs.Opened.{first_of}
use Rattle.recovery.specs.Upgraded.{of_old}
use Rattle.recovery.specs.declared.fault.OpenFault.TheVariants.{BadSize}
use Rattle.recovery.specs.declared.fault.UpgradeFault.{UpgradeFault}
use Rattle.recovery.specs.declared.fault.UpgradeFault.TheVariants.{Old, New}
use Rattle.shadow.specs.Label as pages
use Rattle.shadow.specs.Label.{is_known_size}
use Rattle.shadow.specs.Upgraded.{known_blocks}
use Rattle.stores.specs.Images.{meaning}
use Rattle.stores.specs.Opened.{image_refusal}

-- n blocks: these, and blank ones above them
abbrev pub grown : ℕ → List (List ℕ) → List (List ℕ)
grown n blocks = blocks ++ blank_blocks (n - length blocks)

-- the blocks of a copy: those that the old image means, and blank ones above them, as many as the new one has
abbrev pub copied_blocks : (old new : ℕ) → Image → List (List ℕ)
copied_blocks old new image = grown (known_blocks new) (meaning old image)

-- whether some image of the layout that images of the one size have is of the other size
abbrev pub is_size_like : (old new : ℕ) → Bool
is_size_like old new = if journal.is_size old then journal.is_size new else pages.is_size new

-- the refusal of a copy by the sizes of both devices: the new one may be larger
abbrev pub copy_size_refusal : (old new : ℕ) → Option UpgradeFault
copy_size_refusal old new =
    if not (is_known_size old) then Some (Old BadSize)
    else (if not (is_size_like old new && nat_le old new) then Some (New BadSize) else None)

-- the refusal of a copy: by the sizes, and then as an opening refuses the old image
abbrev pub copy_refusal : (old new : ℕ) → Image → Option UpgradeFault
copy_refusal old new image = first_of (copy_size_refusal old new) (of_old (image_refusal old image))
