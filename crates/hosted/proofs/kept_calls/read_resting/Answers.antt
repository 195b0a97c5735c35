use Rattle.std.proofs.Common.{◌∙◌, refl, subst, sym}
use Rattle.journal.specs.Calls.{StopsLeave}
use Rattle.journal.specs.Maps.{fresh}
use Rattle.journal.specs.Store.{device_of}
use Rattle.hosted.specs.Calls.{MeansOn}
use Rattle.hosted.proofs.Outcomes.{contents_fresh}
use Rattle.hosted.proofs.kept_calls.read_resting.Goals as goal

pub returns-in-Ok-clause-bytes : goal.returns-in-Ok-clause-bytes
returns-in-Ok-clause-bytes g c = λ saved holds.
    c.in-Ok.ensures.ok (fresh saved) (c.resume-store.ensures.state holds.store holds.rests (fresh saved) holds.stands) ∙ contents_fresh saved c.args.block

pub returns-in-Ok-clause-rests : goal.returns-in-Ok-clause-rests
returns-in-Ok-clause-rests g c = (c.read_block.new.self, c.rested.ensures.rests)

pub returns-in-Ok-clause-holds : goal.returns-in-Ok-clause-holds
returns-in-Ok-clause-holds g c = λ saved holds. record {
  store = c.read_block.new.self;
  rests = c.rested.ensures.rests;
  stands = c.read_block.ensures.state (fresh saved) (c.resume-store.ensures.state holds.store holds.rests (fresh saved) holds.stands);
}

pub returns-in-Ok-clause-stops : goal.returns-in-Ok-clause-stops
returns-in-Ok-clause-stops g c = λ saved holds.
    let D = g.D.SectorDevice in
    let store = c.resume-store.result in
    subst (λ d. StopsLeave D d c.rested.result.0 (MeansOn D d saved)) c.resume-store.ensures.device
    (subst (λ d. StopsLeave D (device_of store) d (MeansOn D (device_of store) saved)) c.rested.ensures.rests.on
    (c.read_block.ensures.stops (fresh saved) (c.resume-store.ensures.state holds.store holds.rests (fresh saved) holds.stands) refl))

pub returns-in-Err-clause-stops : goal.returns-in-Err-clause-stops
returns-in-Err-clause-stops g c = λ saved holds.
    let D = g.D.SectorDevice in
    let store = c.resume-store.result in
    subst (λ d. StopsLeave D d c.into_device.result (MeansOn D d saved)) c.resume-store.ensures.device
    (subst (λ d. StopsLeave D (device_of store) d (MeansOn D (device_of store) saved)) (sym c.into_device.ensures.device)
    (c.read_block.ensures.stops (fresh saved) (c.resume-store.ensures.state holds.store holds.rests (fresh saved) holds.stands) refl))
