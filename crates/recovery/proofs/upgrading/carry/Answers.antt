use Rattle.std.proofs.Common.{None, arith, subst}
use Rattle.std.proofs.lemmas.Result.{on_ok_weaker}
use Rattle.journal.specs.Calls.{ReadsAtMost}
use Rattle.journal.specs.Images.{home_of, blocks_below}
use Rattle.recovery.specs.Found.{given_in}
use Rattle.recovery.proofs.HomesMade.{halves_made, homes_given, making_homes, given_reads}
use Rattle.recovery.proofs.Makings.{both_ok}
use Rattle.recovery.proofs.upgrading.carry.Goals as goal

pub returns-clause-ok : goal.returns-clause-ok
returns-clause-ok g c = λ source keeps.
    let n = c.args.blocks.number in
    let image = (g.A.SectorDevice.disk c.args.source.now).content in
    both_ok c.make.result
    (λ made noted. halves_made n image (g.B.SectorDevice.disk c.make.new.new) noted.1 made)
    (c.make.ensures.made source keeps) (c.make.ensures.noted source)

pub returns-clause-slots : goal.returns-clause-slots
returns-clause-slots g c = λ keeps.
    on_ok_weaker c.make.result (λ same k high low. same k (high, low)) (c.make.ensures.left keeps)

pub returns-clause-stops : goal.returns-clause-stops
returns-clause-stops g c = λ source keeps x since.
    let new = c.args.target.now in
    let n = c.args.blocks.number in
    let image = (g.A.SectorDevice.disk c.args.source.now).content in
    making_homes n c.args.blocks.many c.args.blocks.few (given_in n None image) (blocks_below (home_of n image) n) (homes_given n image) (g.B.SectorDevice.disk new)
    (λ k. g.met.B.SectorDevice.by_sectors new k keeps) x (c.make.ensures.stops source keeps x since)

pub returns-clause-reads : goal.returns-clause-reads
returns-clause-reads g c = λ source.
    let n = c.args.blocks.number in
    subst (λ reads. ReadsAtMost g.A.SectorDevice c.args.source.now c.make.new.old reads) (given_reads n n (omega arith)) (c.make.ensures.reads source)
