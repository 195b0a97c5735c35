-- Counts of 64 bits. At its last value a count stays.
use Rattle.std.specs.Prelude.{◌≡◌, ℕ, zero, suc, ◌+◌, ◌-◌, ◌^◌, ◌≤◌, min, Result, IsOk, IsErr}
use Rattle.sector_disk.specs.declared.device.Counts.{Counts}

-- the count after one more
abbrev pub count_up : ℕ → ℕ
count_up n = min (n + 1) (2 ^ 64 - 1)

-- the count after so many more
abbrev pub count_up_by : (times count : ℕ) → ℕ
count_up_by zero count = count
count_up_by (suc times) count = count_up (count_up_by times count)

-- the counts with one more read, write or sync begun
abbrev pub with_read : Counts → Counts
with_read counts = record counts { reads = count_up counts.reads }

abbrev pub with_write : Counts → Counts
with_write counts = record counts { writes = count_up counts.writes }

abbrev pub with_sync : Counts → Counts
with_sync counts = record counts { syncs = count_up counts.syncs }

-- The count of failures stays where all went well, and is one more at an error. It never falls.
pub record CountsFailure {T E : Type 0} (before now : ℕ) (result : Result T E) : Type 0 where
  pub never_falls : before ≤ now
  pub stays : IsOk result → now ≡ before
  pub rises : IsErr result → now ≡ count_up before
