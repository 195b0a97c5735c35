use Rattle.std.proofs.Common.{◌≡◌, IsTrue, ap, sym, subst}
use Rattle.journal.specs.Store.{StandsFor, device_of}
use Rattle.journal.specs.Suits.{suits}
use Rattle.interpreter.specs.Lines.{new_forth}
use Rattle.stores.proofs.OwnMaps.{own_maps, stands_for_own}
use Rattle.sessions.proofs.Ended.{ended_beside, ended_err, ended_ok}
use Rattle.sessions.proofs.over_store.run_over_traced.Goals as goal

pub returns-clause-session : goal.returns-clause-session
returns-clause-session g c =
    let before : g.F.Lines.device c.new-forth.result ≡ device_of c.args.store =
    c.new-forth.ensures.device (device_of c.args.store) (λ held is. ap device_of is) in
    let after : g.F.Lines.device c.run_traced-end.new.forth ≡ device_of c.into_store.result = sym c.into_store.ensures.device in
    let ok = rw (before, after) at c.run_traced-end.ensures.ok in
    let err = rw (before, after) at c.run_traced-end.ensures.err in
    λ m stands. ended_beside c.run_traced-end.result _ _ _ _ _ _ _ _ (λ opening closing made h. h.run) (λ e opening closing made h. h.run) c.into_store.ensures.maps (new_forth c.args.steps m)
    (c.new-forth.ensures.opens m (λ held is. subst (λ s. StandsFor s m) (sym is) stands)) ok err

pub returns-clause-told : goal.returns-clause-told
returns-clause-told g c =
    let before : g.F.Lines.device c.new-forth.result ≡ device_of c.args.store =
    c.new-forth.ensures.device (device_of c.args.store) (λ held is. ap device_of is) in
    let after : g.F.Lines.device c.run_traced-end.new.forth ≡ device_of c.into_store.result = sym c.into_store.ensures.device in
    let ok = rw (before, after) at c.run_traced-end.ensures.ok in
    λ m stands. ended_ok c.run_traced-end.result _ _ _ _ (new_forth c.args.steps m)
    (c.new-forth.ensures.opens m (λ held is. subst (λ s. StandsFor s m) (sym is) stands)) ok

pub returns-clause-told_cut : goal.returns-clause-told_cut
returns-clause-told_cut g c =
    let before : g.F.Lines.device c.new-forth.result ≡ device_of c.args.store =
    c.new-forth.ensures.device (device_of c.args.store) (λ held is. ap device_of is) in
    let after : g.F.Lines.device c.run_traced-end.new.forth ≡ device_of c.into_store.result = sym c.into_store.ensures.device in
    let err = rw (before, after) at c.run_traced-end.ensures.err in
    λ m stands. ended_err c.run_traced-end.result _ _ _ _ (new_forth c.args.steps m)
    (c.new-forth.ensures.opens m (λ held is. subst (λ s. StandsFor s m) (sym is) stands)) err

pub returns-clause-goes : goal.returns-clause-goes
returns-clause-goes g c =
    let before : g.F.Lines.device c.new-forth.result ≡ device_of c.args.store =
    c.new-forth.ensures.device (device_of c.args.store) (λ held is. ap device_of is) in
    let after : g.F.Lines.device c.run_traced-end.new.forth ≡ device_of c.into_store.result = sym c.into_store.ensures.device in
    let met = g.met.D.SectorDevice in
    record {
      model = rw (before, after) at c.run_traced-end.ensures.model;
      sectors = λ keeps. (returns-clause-session g c (own_maps c.args.store) (stands_for_own met.present met.keeps_both c.args.store keeps)).3.kept.sectors;
      time = rw (before, after) at c.run_traced-end.ensures.time;
      failures = rw (before, after) at c.run_traced-end.ensures.failures;
    }

pub run_traced-end-requires : goal.run_traced-end-requires
run_traced-end-requires g c =
    let D = g.met.D.SectorDevice in
    let sound = c.new-forth.ensures.sound (own_maps c.args.store)
    (λ held is keeps. subst (λ s. StandsFor s (own_maps c.args.store)) (sym is)
    (stands_for_own D.present D.keeps_both c.args.store (subst (λ s. IsTrue (suits g.D.SectorDevice (device_of s))) is keeps))) in
    record { sound = sound }
