use Rattle.test_devices.proofs.Histories.{goes_on, in_call}
use Rattle.sector_disk.specs.MemoryDisk.{held}
use Rattle.test_devices.proofs.recorded.RecordedSectorDevice.write.Goals as goal

pub returns-clause-time : goal.returns-clause-time
returns-clause-time c = goes_on c.args.self.now _ c.in_ok-remember.ensures.ok

pub returns-clause-stops : goal.returns-clause-stops
returns-clause-stops c = in_call c.args.self.now c.remember.new.self.past.items (held c.write.new.self) c.in_ok-remember.ensures.ok
