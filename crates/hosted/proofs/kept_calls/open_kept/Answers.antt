use Rattle.std.proofs.Common.{◌∙◌, IsTrue, ap, arith, sym, subst}
use Rattle.journal.specs.Calls.{StopsLeave}
use Rattle.journal.proofs.Suited.{stays}
use Rattle.sessions.specs.Devices.{Becomes}
use Rattle.shadow.specs.Label.{is_known_size}
use Rattle.shadow.specs.Upgraded.{known_blocks}
use Rattle.stores.specs.Images.{meaning}
use Rattle.stores.specs.Opened.{IsReady}
use Rattle.hosted.specs.Calls.{MayRecover}
use Rattle.hosted.specs.Costs.{OpeningBegins}
use Rattle.hosted.specs.Keeping.{HoldsOpen}
use Rattle.hosted.specs.Refusals.{IsOfImage}
use Rattle.hosted.proofs.Devices.{refused_leaves}
use Rattle.hosted.proofs.Outcomes.{lies_with_image}
use Rattle.hosted.proofs.kept_calls.open_kept.Goals as goal

pub laid_to_rest-requires-clause-known : goal.laid_to_rest-requires-clause-known
laid_to_rest-requires-clause-known g c = ap is_known_size c.ready.ensures.passes.sectors ∙ c.in-Ok.ensures.sized

pub laid_to_rest-requires-clause-count : goal.laid_to_rest-requires-clause-count
laid_to_rest-requires-clause-count g c = c.in-Ok.ensures.blocks ∙ ap known_blocks (sym c.ready.ensures.passes.sectors)

pub laid_to_rest-requires-clause-is_ready : goal.laid_to_rest-requires-clause-is_ready
laid_to_rest-requires-clause-is_ready g c =
    let D = g.D.SectorDevice in
    let old = c.args.device in
    let new = c.ready.new.device in
    let on = c.ready.ensures.passes in
    λ honest. subst (λ n. IsReady n c.in-Ok.blocks c.in-Ok.is_open c.ready.new.listing (D.disk new)) (sym on.sectors)
    (c.in-Ok.ensures.is_ready (subst IsTrue (stays D old new on.sectors on.model on.units) honest))

pub returns-in-Ok-clause-holds : goal.returns-in-Ok-clause-holds
returns-in-Ok-clause-holds g c =
    let D = g.D.SectorDevice in
    let old = c.args.device in
    let new = c.ready.new.device in
    let on = c.ready.ensures.passes in
    let rest = c.laid_to_rest.result in
    λ keeps. subst (HoldsOpen D rest.0 rest.1 c.laid_to_rest.new.listing) (ap (λ n. meaning n (D.disk new).content) on.sectors ∙ c.in-Ok.ensures.same keeps)
    (c.laid_to_rest.ensures.holds (subst IsTrue (sym (stays D old new on.sectors on.model on.units)) keeps))

pub returns-in-Ok-clause-sectors : goal.returns-in-Ok-clause-sectors
returns-in-Ok-clause-sectors g c =
    let D = g.D.SectorDevice in
    let old = c.args.device in
    let new = c.ready.new.device in
    let on = c.ready.ensures.passes in
    ap D.sector_count c.laid_to_rest.ensures.device ∙ on.sectors

pub returns-in-Ok-clause-well : goal.returns-in-Ok-clause-well
returns-in-Ok-clause-well g c =
    let D = g.D.SectorDevice in
    let old = c.args.device in
    let new = c.ready.new.device in
    let on = c.ready.ensures.passes in
    ap D.failures c.laid_to_rest.ensures.device ∙ c.in-Ok.ensures.well

pub returns-in-Ok-clause-goes : goal.returns-in-Ok-clause-goes
returns-in-Ok-clause-goes g c =
    let D = g.D.SectorDevice in
    let old = c.args.device in
    let new = c.ready.new.device in
    let on = c.ready.ensures.passes in
    subst (Becomes D old) (sym c.laid_to_rest.ensures.device)
    (record { model = stays D old new on.sectors on.model on.units; sectors = λ keeps. on.sectors; time = on.time; failures = on.failures })

pub returns-in-Err-clause-goes : goal.returns-in-Err-clause-goes
returns-in-Err-clause-goes g c =
    let D = g.D.SectorDevice in
    let old = c.args.device in
    let new = c.ready.new.device in
    let on = c.ready.ensures.passes in
    record { model = stays D old new on.sectors on.model on.units; sectors = λ keeps. on.sectors; time = on.time; failures = on.failures }

pub returns-in-Ok-clause-stops : goal.returns-in-Ok-clause-stops
returns-in-Ok-clause-stops g c =
    let D = g.D.SectorDevice in
    let old = c.args.device in
    let new = c.ready.new.device in
    let on = c.ready.ensures.passes in
    λ keeps. subst (λ d. StopsLeave D old d (MayRecover D old)) (sym c.laid_to_rest.ensures.device) (c.ready.ensures.stops keeps c.in-Ok.ensures.sized)

pub returns-in-Err-clause-stops : goal.returns-in-Err-clause-stops
returns-in-Err-clause-stops g c =
    let D = g.D.SectorDevice in
    let old = c.args.device in
    let new = c.ready.new.device in
    let on = c.ready.ensures.passes in
    λ keeps. refused_leaves D old new _ c.in-Err.ensures.bad_size c.in-Err.ensures.unasked (c.ready.ensures.stops keeps) (g.met.D.SectorDevice.only_now old)

pub returns-in-Ok-clause-begins : goal.returns-in-Ok-clause-begins
returns-in-Ok-clause-begins g c =
    let D = g.D.SectorDevice in
    let old = c.args.device in
    let new = c.ready.new.device in
    let on = c.ready.ensures.passes in
    λ keeps.
    let begins = c.ready.ensures.begins keeps c.in-Ok.ensures.sized in
    let reads = c.ready.ensures.reads keeps c.in-Ok.ensures.sized in
    subst (OpeningBegins D old) (sym c.laid_to_rest.ensures.device) (record {
      begins = record { few_writes = omega (arith, begins.few_writes); few_syncs = omega (arith, begins.few_syncs) };
      reading = omega (arith, reads);
    })

pub returns-in-Err-clause-image : goal.returns-in-Err-clause-image
returns-in-Err-clause-image g c = subst IsOfImage (sym c.from.ensures) (lies_with_image _)
