use Rattle.sector_disk.proofs.FileCalls.{went_then}
use Rattle.sector_disk.proofs.host_files.fill_and_sync.Goals as goal

pub returns-in-Ok-clause-went : goal.returns-in-Ok-clause-went
returns-in-Ok-clause-went g c =
    let sync = c.sync.ensures in
    went_then g.H.HostFile c.args.file.now c.fill.new.file c.sync.new.self (g.met.H.HostFile.widens c.sync.new.self) c.fill.ensures.goes sync.model sync.units sync.time

pub returns-in-Err-clause-went : goal.returns-in-Err-clause-went
returns-in-Err-clause-went g c =
    let sync = c.sync.ensures in
    went_then g.H.HostFile c.args.file.now c.fill.new.file c.sync.new.self (g.met.H.HostFile.widens c.sync.new.self) c.fill.ensures.goes sync.model sync.units sync.time
