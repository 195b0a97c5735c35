use Rattle.std.proofs.Common.{◌⊎◌, subst, sym}
use Rattle.journal.specs.Calls.{StopsLeave}
use Rattle.journal.specs.Maps.{fresh, latest}
use Rattle.journal.specs.Store.{StandsFor, device_of}
use Rattle.hosted.specs.Calls.{MeansOn}
use Rattle.hosted.specs.Keeping.{SavesOpen}
use Rattle.hosted.specs.Spilling.{all_spilled}
use Rattle.hosted.proofs.Spills.{committed_fresh, saves}
use Rattle.hosted.proofs.kept_calls.save_resting.Goals as goal

pub returns-in-Ok-clause-rests : goal.returns-in-Ok-clause-rests
returns-in-Ok-clause-rests g c = (c.save_all.new.store, c.rested.ensures.rests)

pub returns-in-Ok-clause-saved : goal.returns-in-Ok-clause-saved
returns-in-Ok-clause-saved g c = λ saved holds. record {
  store = c.save_all.new.store;
  rests = c.rested.ensures.rests;
  stands = subst (λ m. StandsFor c.save_all.new.store m) (committed_fresh saved c.args.blocks.now c.args.bytes.now)
      (c.in-Ok.ensures.ok (fresh saved) (c.resume-store.ensures.state holds.store holds.rests (fresh saved) holds.stands));
}

pub returns-in-Ok-clause-stops : goal.returns-in-Ok-clause-stops
returns-in-Ok-clause-stops g c = λ saved holds.
    let D = g.D.SectorDevice in
    let store = c.resume-store.result in
    let on = device_of store in
    subst (λ d. StopsLeave D d c.rested.result.0 (SavesOpen D d saved c.args.blocks.now c.args.bytes.now)) c.resume-store.ensures.device
    (subst (λ l. StopsLeave D on c.rested.result.0 (λ image. MeansOn D on saved image ⊎ MeansOn D on l image)) (saves saved c.args.blocks.now c.args.bytes.now)
    (subst (λ d. StopsLeave D on d (λ image. MeansOn D on saved image
    ⊎ MeansOn D on (latest (all_spilled (fresh saved) c.args.blocks.now c.args.bytes.now)) image)) c.rested.ensures.rests.on
    (c.save_all.ensures.stops (fresh saved) (c.resume-store.ensures.state holds.store holds.rests (fresh saved) holds.stands))))

pub returns-in-Err-clause-stops : goal.returns-in-Err-clause-stops
returns-in-Err-clause-stops g c = λ saved holds.
    let D = g.D.SectorDevice in
    let store = c.resume-store.result in
    let on = device_of store in
    subst (λ d. StopsLeave D d c.into_device.result (SavesOpen D d saved c.args.blocks.now c.args.bytes.now)) c.resume-store.ensures.device
    (subst (λ l. StopsLeave D on c.into_device.result (λ image. MeansOn D on saved image ⊎ MeansOn D on l image)) (saves saved c.args.blocks.now c.args.bytes.now)
    (subst (λ d. StopsLeave D on d (λ image. MeansOn D on saved image
    ⊎ MeansOn D on (latest (all_spilled (fresh saved) c.args.blocks.now c.args.bytes.now)) image)) (sym c.into_device.ensures.device)
    (c.save_all.ensures.stops (fresh saved) (c.resume-store.ensures.state holds.store holds.rests (fresh saved) holds.stands))))
