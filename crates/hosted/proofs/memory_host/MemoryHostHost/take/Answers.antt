use Rattle.std.proofs.Common.{◌≡◌, subst}
use Rattle.std.specs.Prelude.{OnOk}
use Rattle.sector_disk.specs.MemoryDisk.{held}
use Rattle.hosted.proofs.Hosts.{where_done}
use Rattle.hosted.proofs.memory_host.MemoryHostHost.take.Goals as goal

pub returns-in-Some-clause-bytes : goal.returns-in-Some-clause-bytes
returns-in-Some-clause-bytes c = λ keeps k small asked.
    where_done c.read.result c.is_ok.result (c.read.new.out ≡ (held c.args.self.now.disk).content k) c.is_ok.ensures.value
    (subst (λ it. OnOk c.read.result (c.read.new.out ≡ (held c.args.self.now.disk).content it)) (c.in-Some.ensures.asked k small asked)
    (c.read.ensures.bytes keeps))
