use Rattle.std.proofs.Common.{subst, sym}
use Rattle.std.proofs.lemmas.Result.{on_ok_weaker}
use Rattle.sector_disk.specs.Disk.{Disk}
use Rattle.recovery.specs.Homes.{HasHomesBelow}
use Rattle.recovery.proofs.HomesMade.{none_below}
use Rattle.journal.proofs.Calls.{begins_of}
use Rattle.recovery.proofs.homes.HomesTarget.begin.Goals as goal

pub returns-clause-begun : goal.returns-clause-begun
returns-clause-begun g c = λ keeps.
    let d = g.D.SectorDevice.disk c.args.device.now in
    let n = c.args._blocks.number in
    on_ok_weaker c.fill_head.result
    (λ done given. subst (λ (e : Disk). HasHomesBelow n 0 given e.content) (sym done) (none_below n given d.content))
    (c.fill_head.ensures.ok keeps)

pub returns-clause-lays : goal.returns-clause-lays
returns-clause-lays g c =
    let D = g.D.SectorDevice in
    let f = c.fill_head.ensures in
    record {
      only = f.only;
      stops = f.stops;
      passes = f.passes;
      begins = begins_of D f.costs;
      reads = f.costs.few_reads;
    }
