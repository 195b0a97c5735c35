use Rattle.std.proofs.Common.{◌+◌, ◌++◌, append_assoc, subst}
use Rattle.std.proofs.lemmas.Result.{on_ok_weaker}
use Rattle.sha2.specs.Hashers.{Holds256}
use Rattle.sector_disk.specs.Disk.{Disk}
use Rattle.journal.proofs.Calls.{keeps_on}
use Rattle.journal.proofs.hashing.add_pair.Goals as goal

pub returns-clause-ok : goal.returns-clause-ok
returns-clause-ok g c = λ keeps.
    let D = g.D.SectorDevice in
    let image = (D.disk c.args.device.now).content in
    let k = c.args.k in
    let first = c.add_sector.ensures.reads in
    let honest = keeps_on D c.args.device.now c.add_sector.new.device keeps first.passes in
    on_ok_weaker c.add_sector-2.result
    (λ more m held. subst (Holds256 c.add_sector-2.new.hasher) (append_assoc m (image k) (image (k + 1)))
    (subst (λ (d : Disk). Holds256 c.add_sector-2.new.hasher ((m ++ image k) ++ d.content (k + 1))) (first.disk keeps)
    (more (m ++ image k) (c.in_ok-add_sector.ensures.ok keeps m held))))
    (c.add_sector-2.ensures.ok honest)
