use Rattle.std.proofs.Common.{◌∙◌, ap, subst, sym}
use Rattle.journal.specs.Calls.{StopsLeave}
use Rattle.journal.specs.Maps.{fresh}
use Rattle.sessions.specs.Devices.{Becomes}
use Rattle.shadow.specs.Upgraded.{known_blocks}
use Rattle.shadow.specs.Label.{is_known_size}
use Rattle.hosted.specs.Calls.{MayRecover, meant_by}
use Rattle.hosted.specs.Costs.{OpeningBegins}
use Rattle.hosted.proofs.image_sessions.opened.Goals as goal

pub returns-in-Ok-clause-ok : goal.returns-in-Ok-clause-ok
returns-in-Ok-clause-ok g c =
    let D = g.D.SectorDevice in
    let old = c.args.device in
    let store = c.resume.ensures in
    let kept = c.in-Ok.ensures in
    record {
      size = store.blocks ∙ c.block_count-count.ensures ∙ ap known_blocks kept.sectors;
      sectors = ap D.sector_count store.device ∙ kept.sectors;
      stands = λ keeps. let holds = kept.holds keeps in store.state holds.store holds.rests (fresh (meant_by D old)) holds.stands;
      pending = store.pending;
      closed = store.closed;
      well = ap D.failures store.device ∙ kept.well;
      goes = subst (Becomes D old) (sym store.device) kept.goes;
      stops = λ keeps. subst (λ d. StopsLeave D old d (MayRecover D old)) (sym store.device) (kept.stops keeps);
    }

pub returns-in-Ok-clause-begins : goal.returns-in-Ok-clause-begins
returns-in-Ok-clause-begins g c = λ keeps.
    subst (OpeningBegins g.D.SectorDevice c.args.device) (sym c.resume.ensures.device) (c.in-Ok.ensures.begins keeps)

pub block_count-count-requires : goal.block_count-count-requires
block_count-count-requires g c = ap is_known_size c.in-Ok.ensures.sectors ∙ c.in-Ok.ensures.sized

pub resume-requires-clause-known : goal.resume-requires-clause-known
resume-requires-clause-known g c = ap is_known_size c.in-Ok.ensures.sectors ∙ c.in-Ok.ensures.sized
