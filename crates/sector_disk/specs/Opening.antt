-- Files of a system as they are opened and made.
use Rattle.std.specs.Prelude.{◌≡◌, ℕ, ◌<◌, ◌*◌, ◌/◌, ◌%◌, ◌^◌, ◌==◌, ◌&&◌, nat_lt, if◌then◌else◌, false}
use Rattle.sector_disk.specs.FileBytes.{FileBytes}
use Rattle.sector_disk.specs.Moments.{Elapses}
use Rattle.sector_disk.specs.declared.host_file.HostFile.{Ghosts}

-- how many sectors a file of so many bytes has: none where they don't come out even, or are 2^32 or more
abbrev pub sectors_in : ℕ → ℕ
sectors_in len = if (len % 512 == 0) && nat_lt (len / 512) (2 ^ 32) then len / 512 else 0

-- The file begins with so many sectors of zeros, and nothing of it is unsynced.
pub record AreZeros (sectors : ℕ) (file : FileBytes) : Type 0 where
  pub zeros : (p : ℕ) → p < 512 * sectors → file.content p ≡ 0
  pub synced : file.synced ≡ file.content
  pub settled : (k : ℕ) → file.unsynced k ≡ false

-- The one is what the other became by calls of it.
pub record KeepsGoing {H : Type 0} (G : Ghosts H) (old new : H) : Type 0 where
  pub model : G.keeps_model new ≡ G.keeps_model old
  pub units : G.keeps_sectors new ≡ G.keeps_sectors old
  pub settle : G.syncs_settle new ≡ G.syncs_settle old
  pub time : Elapses G.time G.left_since old new

-- The same however its calls ended: after a sync that failed another one may settle nothing.
pub record WentOn {H : Type 0} (G : Ghosts H) (old new : H) : Type 0 where
  pub model : G.keeps_model new ≡ G.keeps_model old
  pub units : G.keeps_sectors new ≡ G.keeps_sectors old
  pub time : Elapses G.time G.left_since old new
