-- Which calls of a device with a fuse fail.
use Rattle.std.specs.Prelude.{◌==◌, nat_lt, ◌+◌, ℕ, Bool, false}
use Rattle.sector_disk.specs.declared.fused.Fuse.{Fuse}
use Rattle.sector_disk.specs.declared.fused.Fuse.TheVariants.{Once, From, Blown}

-- whether the j-th call from now on fails, counted from 1
abbrev pub will_fail : Fuse → ℕ → Bool
will_fail (Once passes) j = j == passes + 1
will_fail (From passes) j = nat_lt passes j
will_fail Blown j = false
