-- What an image holds, as reads alone find it.
use Rattle.std.specs.Prelude.{ℕ, zero, suc, ◌+◌, ◌*◌, if◌then◌else◌, List, [], ◌++◌, Option, Some, None}
use Rattle.sector_disk.specs.Disk.{Image}
use Rattle.journal.specs.Layout.{gate_open, count_listed}

-- the record of the save that is under way, where one is
abbrev pub record_in : Image → Option (List ℕ)
record_in image = if gate_open (image 1) then Some (image 2) else None

-- how many of the first n blocks it lists
abbrev pub count_in : ℕ → Option (List ℕ) → Option ℕ
count_in n None = None
count_in n (Some bytes) = Some (count_listed bytes n)

-- the bytes of the first blocks, one block after another
abbrev pub joined_below : (ℕ → List ℕ) → ℕ → List ℕ
joined_below bytes zero = []
joined_below bytes (suc b) = joined_below bytes b ++ bytes b

-- how many reads find the record: of the gate, and where it is open of the record and of each listed slot
abbrev pub reads_to_list : ℕ → Image → ℕ
reads_to_list n image = if gate_open (image 1) then 2 * count_listed (image 2) n + 2 else 1
