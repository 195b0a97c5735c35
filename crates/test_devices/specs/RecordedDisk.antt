-- What a recorded disk is: the disk within.
use Rattle.sector_disk.specs.declared.memory_disk.MemoryDisk.{MemoryDisk}
use Rattle.test_devices.specs.declared.recorded.Recorded.{Recorded}

abbrev pub recorded_device_of : Recorded → MemoryDisk
recorded_device_of d = d.device
