use Rattle.std.proofs.Common.{◌∙◌, IsTrue, ap, sym, subst}
use Rattle.sector_disk.specs.Disk.{Image}
use Rattle.journal.specs.BySize.{Means}
use Rattle.journal.specs.Calls.{BeginsAtMost, ReadsAtMost}
use Rattle.journal.specs.Maps.{fresh}
use Rattle.journal.specs.Store.{StandsFor}
use Rattle.journal.specs.Suits.{suits}
use Rattle.journal.proofs.Suited.{stays}
use Rattle.shadow.specs.Label.{is_known_size}
use Rattle.shadow.specs.Upgraded.{known_blocks}
use Rattle.stores.specs.Images.{meaning}
use Rattle.stores.specs.Opened.{IsReady, OpeningLeaves, reads_for, syncs_for, writes_for}
use Rattle.stores.proofs.opening.open.Goals as goal

pub adopt-requires-clause-known : goal.adopt-requires-clause-known
adopt-requires-clause-known g c = ap is_known_size c.ready.ensures.passes.sectors ∙ c.in-Ok.ensures.sized

pub adopt-requires-clause-count : goal.adopt-requires-clause-count
adopt-requires-clause-count g c = c.in-Ok.ensures.blocks ∙ ap known_blocks (sym c.ready.ensures.passes.sectors)

pub adopt-requires-clause-is_ready : goal.adopt-requires-clause-is_ready
adopt-requires-clause-is_ready g c =
    let D = g.D.SectorDevice in
    let old = c.args.device in
    let new = c.ready.new.device in
    let on = c.ready.ensures.passes in
    λ honest. subst (λ n. IsReady n c.in-Ok.number c.in-Ok.is_open c.ready.new.listing (D.disk new)) (sym on.sectors)
    (c.in-Ok.ensures.is_ready (subst IsTrue (stays D old new on.sectors on.model on.units) honest))

pub returns-in-Ok-clause-ok : goal.returns-in-Ok-clause-ok
returns-in-Ok-clause-ok g c =
    let D = g.D.SectorDevice in
    let old = c.args.device in
    let new = c.ready.new.device in
    let on = c.ready.ensures.passes in
    λ keeps. subst (λ blocks. StandsFor c.adopt.result (fresh blocks)) (ap (λ n. meaning n (D.disk new).content) on.sectors ∙ c.in-Ok.ensures.same keeps)
    (c.adopt.ensures.state (subst IsTrue (sym (stays D old new on.sectors on.model on.units)) keeps))

pub returns-in-Ok-clause-after : goal.returns-in-Ok-clause-after
returns-in-Ok-clause-after g c =
    let D = g.D.SectorDevice in
    let old = c.args.device in
    let new = c.ready.new.device in
    let on = c.ready.ensures.passes in
    λ keeps image may. subst (λ n. Means n (meaning (D.sector_count old) (D.disk old).content) image) (ap D.sector_count c.adopt.ensures.device ∙ on.sectors)
    ((returns-in-Ok-clause-ok g c keeps).left c.adopt.ensures.closed image may)

pub returns-in-Ok-clause-size : goal.returns-in-Ok-clause-size
returns-in-Ok-clause-size g c =
    let D = g.D.SectorDevice in
    let old = c.args.device in
    let new = c.ready.new.device in
    let on = c.ready.ensures.passes in
    sym on.sectors ∙ ap D.sector_count (sym c.adopt.ensures.device) ∙ c.adopt.result.size

pub returns-in-Ok-clause-blocks : goal.returns-in-Ok-clause-blocks
returns-in-Ok-clause-blocks g c = c.adopt.ensures.blocks ∙ c.in-Ok.ensures.blocks

pub returns-in-Ok-clause-model : goal.returns-in-Ok-clause-model
returns-in-Ok-clause-model g c =
    let D = g.D.SectorDevice in
    let old = c.args.device in
    let new = c.ready.new.device in
    let on = c.ready.ensures.passes in
    ap (suits D) c.adopt.ensures.device ∙ stays D old new on.sectors on.model on.units

pub returns-in-Err-clause-model : goal.returns-in-Err-clause-model
returns-in-Err-clause-model g c =
    let D = g.D.SectorDevice in
    let old = c.args.device in
    let new = c.ready.new.device in
    let on = c.ready.ensures.passes in
    stays D old new on.sectors on.model on.units

pub returns-in-Ok-clause-stops : goal.returns-in-Ok-clause-stops
returns-in-Ok-clause-stops g c =
    let D = g.D.SectorDevice in
    let old = c.args.device in
    let new = c.ready.new.device in
    let on = c.ready.ensures.passes in
    λ keeps known. subst (λ now. (x : Image) → D.left_since now (D.time old) x → OpeningLeaves (D.sector_count old) (D.disk old) x) (sym c.adopt.ensures.device)
    (c.ready.ensures.stops keeps known)

pub returns-in-Ok-clause-begins : goal.returns-in-Ok-clause-begins
returns-in-Ok-clause-begins g c =
    let D = g.D.SectorDevice in
    let old = c.args.device in
    let new = c.ready.new.device in
    let on = c.ready.ensures.passes in
    λ keeps known. subst (λ d. BeginsAtMost D old d (writes_for (D.sector_count old) (D.disk old).content) (syncs_for (D.sector_count old) (D.disk old).content))
    (sym c.adopt.ensures.device) (c.ready.ensures.begins keeps known)

pub returns-in-Ok-clause-reads : goal.returns-in-Ok-clause-reads
returns-in-Ok-clause-reads g c =
    let D = g.D.SectorDevice in
    let old = c.args.device in
    let new = c.ready.new.device in
    let on = c.ready.ensures.passes in
    λ keeps known. subst (λ d. ReadsAtMost D old d (reads_for (D.sector_count old) (D.disk old).content)) (sym c.adopt.ensures.device) (c.ready.ensures.reads keeps known)
