use Rattle.terminal.proofs.TextLemmas.{looked_in_vain}
use Rattle.terminal.proofs.over_devices.write_over.Goals as goal

pub returns-in-Put-clause-written : goal.returns-in-Put-clause-written
returns-in-Put-clause-written g c = rw c.in-Put.is (c.put_over.ensures.put)

pub returns-in-Put-clause-failed : goal.returns-in-Put-clause-failed
returns-in-Put-clause-failed g c = rw c.in-Put.is (c.put_over.ensures.failed)

pub returns-in-Import-clause-written : goal.returns-in-Import-clause-written
returns-in-Import-clause-written g c = rw c.in-Import.is (c.import_over.ensures.imported)

pub returns-in-Import-clause-failed : goal.returns-in-Import-clause-failed
returns-in-Import-clause-failed g c = rw c.in-Import.is (c.import_over.ensures.failed)

pub returns-in-CheckImport-clause-written : goal.returns-in-CheckImport-clause-written
returns-in-CheckImport-clause-written g c = rw c.in-CheckImport.is (c.check_files-outcome.ensures.looked)

pub returns-in-CheckImport-clause-failed : goal.returns-in-CheckImport-clause-failed
returns-in-CheckImport-clause-failed g c = rw c.in-CheckImport.is (looked_in_vain _ _ c.check_files-outcome.result c.args.device c.check_files-outcome.ensures.told c.check_files-outcome.ensures.cannot)
