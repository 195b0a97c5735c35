-- Proofs of the laws that a file in memory meets.
use Rattle.sector_disk.specs.Disk.{MayLeave}
use Rattle.sector_disk.specs.FileBytes.{FileBytes, disk_of_file}
use Rattle.test_devices.specs.MemoryFile.{IsAsSyncedElsewhere}
use Rattle.sector_disk.specs.Spans.{same_sector}

pub as_synced : (file : FileBytes) → IsAsSyncedElsewhere file → MayLeave (disk_of_file file) (disk_of_file file).content
as_synced file same k is = same_sector file.content file.synced k (λ i below. same.each k i below is)
