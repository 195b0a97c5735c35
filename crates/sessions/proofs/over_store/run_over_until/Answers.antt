use Rattle.std.proofs.Common.{◌≡◌, sym}
use Rattle.journal.specs.Store.{device_of}
use Rattle.interpreter.specs.Lines.{new_forth, undoing}
use Rattle.stores.proofs.OwnMaps.{own_maps, stands_for_own}
use Rattle.sessions.proofs.over_store.run_over_until.Goals as goal

pub returns-clause-session : goal.returns-clause-session
returns-clause-session g c =
    let before : g.F.Lines.device c.begin-system.result ≡ device_of c.args.store = c.begin-system.ensures.device in
    let after : g.F.Lines.device c.run_until-end.new.forth ≡ device_of c.into_store.result = sym c.into_store.ensures.device in
    let runs = rw (before, after) at c.run_until-end.ensures.runs in
    λ m stands.
    let ran = runs (undoing c.args.undoes (new_forth c.args.steps m)) (c.begin-system.ensures.opens m stands) in
    (ran.0, ran.1, c.into_store.ensures.maps ran.0 ran.2, c.has_unsaved-is_unsaved.ensures ran.0 ran.2, ran.3, ran.4)

pub returns-clause-goes : goal.returns-clause-goes
returns-clause-goes g c =
    let before : g.F.Lines.device c.begin-system.result ≡ device_of c.args.store = c.begin-system.ensures.device in
    let after : g.F.Lines.device c.run_until-end.new.forth ≡ device_of c.into_store.result = sym c.into_store.ensures.device in
    let met = g.met.D.SectorDevice in
    record {
      model = rw (before, after) at c.run_until-end.ensures.model;
      sectors = λ keeps. (returns-clause-session g c (own_maps c.args.store) (stands_for_own met.present met.keeps_both c.args.store keeps)).4.kept.sectors;
      time = rw (before, after) at c.run_until-end.ensures.time;
      failures = rw (before, after) at c.run_until-end.ensures.failures;
    }
