use Rattle.std.proofs.Common.{◌≡◌, subst}
use Rattle.std.specs.Prelude.{OnErr, OnOk}
use Rattle.sector_disk.specs.Disk.{MayWrite, written}
use Rattle.sector_disk.specs.MemoryDisk.{held}
use Rattle.hosted.proofs.Hosts.{where_done, where_undone}
use Rattle.hosted.proofs.memory_host.MemoryHostHost.give.Goals as goal

pub returns-in-Some-clause-done : goal.returns-in-Some-clause-done
returns-in-Some-clause-done c = λ keeps k small asked.
    let old = held c.args.self.now.disk in
    let new = held c.write.new.self in
    where_done c.write.result c.is_ok.result (new ≡ written old k c.args.bytes.now) c.is_ok.ensures.value
    (subst (λ it. OnOk c.write.result (new ≡ written old it c.args.bytes.now)) (c.in-Some.ensures.asked k small asked) (c.write.ensures.ok keeps))

pub returns-in-Some-clause-undone : goal.returns-in-Some-clause-undone
returns-in-Some-clause-undone c = λ keeps k small asked.
    let old = held c.args.self.now.disk in
    let new = held c.write.new.self in
    where_undone c.write.result c.is_ok.result (MayWrite k old new) c.is_ok.ensures.value
    (subst (λ it. OnErr c.write.result (MayWrite it old new)) (c.in-Some.ensures.asked k small asked) (c.write.ensures.err keeps))
