use Rattle.std.proofs.Common.{arith}
use Rattle.image_care.proofs.still_disk.StillDisk.new.Goals as goal

pub returns-clause-reads : goal.returns-clause-reads
returns-clause-reads c = λ after only. omega (arith, only.passes.failures, only.begins.few_writes, only.begins.few_syncs)
