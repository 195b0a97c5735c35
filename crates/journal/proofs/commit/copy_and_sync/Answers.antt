use Rattle.std.proofs.Common.{refl, sym, subst, IsTrue}
use Rattle.std.proofs.lemmas.Result.{on_ok_weaker}
use Rattle.sector_disk.specs.Disk.{Disk, settled}
use Rattle.journal.specs.Steps.{HasRedone}
use Rattle.journal.proofs.Calls.{passes_by, passes_err, passes_then, unit_synced}
use Rattle.journal.proofs.commit.copy_and_sync.Goals as goal

pub returns-clause-ok : goal.returns-clause-ok
returns-clause-ok g c = λ keeps.
    let D = g.D.SectorDevice in
    let n = c.args.blocks.number in
    let bytes = c.args.bytes.now in
    let d = D.disk c.args.device.now in
    let mid = c.copy_homes.new.device in
    let honest : IsTrue (D.keeps_sectors mid) = subst IsTrue (sym c.copy_homes.ensures.passes.units) keeps in
    let redone : HasRedone n bytes d (settled (D.disk mid)) = record {
      copied = c.in_ok-copy_homes.ensures.ok keeps;
      others = (c.copy_homes.ensures.only keeps).content;
      synced = λ k. refl;
    } in
    on_ok_weaker c.sync.result (λ is. subst (λ (e : Disk). HasRedone n bytes d e) (sym is) redone) (c.sync.ensures.ok (g.met.D.SectorDevice.keeps_both mid honest))

pub returns-in_err-copy_homes-clause-passes : goal.returns-in_err-copy_homes-clause-passes
returns-in_err-copy_homes-clause-passes g c =
    passes_err g.D.SectorDevice c.args.device.now c.copy_homes.new.device c.in_err-copy_homes.ensures.passes refl c.from_residual.ensures.0

pub returns-clause-passes : goal.returns-clause-passes
returns-clause-passes g c =
    let D = g.D.SectorDevice in
    passes_then D c.args.device.now c.copy_homes.new.device c.sync.new.self g.met.D.SectorDevice.widens c.in_ok-copy_homes.ensures.passes
    (passes_by D c.copy_homes.new.device c.sync.new.self c.sync.ensures.sectors c.sync.ensures.model c.sync.ensures.units
    (λ keeps. unit_synced c.sync.result (D.disk c.copy_homes.new.device) (D.disk c.sync.new.self) (c.sync.ensures.ok keeps) (c.sync.ensures.err keeps)) c.sync.ensures.time c.sync.ensures.failures) refl
