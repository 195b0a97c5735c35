-- What a spill and a save cost by the layout, which the size of a device tells: by layout 2, or by layout 3.
use Rattle.std.specs.Prelude.{ℕ, if◌then◌else◌, Bool}

-- how many writes and reads a spill takes
abbrev pub spill_writes : Bool → ℕ
spill_writes older = if older then 2 else 3

abbrev pub spill_reads : Bool → ℕ
spill_reads older = if older then 0 else 1

-- how many writes each block takes after its spill, and how many come beside these
abbrev pub each_writes : Bool → ℕ
each_writes older = if older then 2 else 0

abbrev pub more_writes : Bool → ℕ
more_writes older = if older then 3 else 2

abbrev pub save_syncs : Bool → ℕ
save_syncs older = if older then 4 else 2

-- how many reads each block takes after its spill
abbrev pub each_reads : Bool → ℕ
each_reads older = if older then 4 else 0
