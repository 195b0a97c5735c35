use Rattle.std.proofs.Common.{◌∙◌, IsTrue, ap, sym, subst}
use Rattle.journal.specs.Store.{StandsFor, device_of}
use Rattle.journal.specs.Suits.{suits}
use Rattle.interpreter.specs.Lines.{new_forth, undoing}
use Rattle.stores.proofs.OwnMaps.{own_maps, stands_for_own}
use Rattle.sessions.proofs.over_store.begin.Goals as goal

pub returns-then-undoes-clause-opens : goal.returns-then-undoes-clause-opens
returns-then-undoes-clause-opens g c = λ m stands.
    subst (λ u. g.F.Lines.stands c.undo_failed_lines.new.self (undoing u (new_forth c.args.steps m))) (sym c.if-undoes.true)
    (c.undo_failed_lines.ensures.stands (new_forth c.args.steps m) (c.new-system.ensures.opens m (λ held is. subst (λ s. StandsFor s m) (sym is) stands)))

pub returns-clause-opens : goal.returns-clause-opens
returns-clause-opens g c = λ m stands.
    subst (λ u. g.F.Lines.stands c.new-system.result (undoing u (new_forth c.args.steps m))) (sym c.if-undoes.false)
    (c.new-system.ensures.opens m (λ held is. subst (λ s. StandsFor s m) (sym is) stands))

pub returns-clause-sound : goal.returns-clause-sound
returns-clause-sound g c =
    let D = g.met.D.SectorDevice in
    c.new-system.ensures.sound (own_maps c.args.store)
    (λ held is keeps. subst (λ s. StandsFor s (own_maps c.args.store)) (sym is)
    (stands_for_own D.present D.keeps_both c.args.store (subst (λ s. IsTrue (suits g.D.SectorDevice (device_of s))) is keeps)))

pub undo_failed_lines-requires : goal.undo_failed_lines-requires
undo_failed_lines-requires g c =
    let D = g.met.D.SectorDevice in
    let sound = c.new-system.ensures.sound (own_maps c.args.store)
    (λ held is keeps. subst (λ s. StandsFor s (own_maps c.args.store)) (sym is)
    (stands_for_own D.present D.keeps_both c.args.store (subst (λ s. IsTrue (suits g.D.SectorDevice (device_of s))) is keeps))) in
    record { sound = sound }

pub returns-then-undoes-clause-device : goal.returns-then-undoes-clause-device
returns-then-undoes-clause-device g c = c.undo_failed_lines.ensures.device ∙ c.new-system.ensures.device (device_of c.args.store) (λ held is. ap device_of is)

pub returns-clause-device : goal.returns-clause-device
returns-clause-device g c = c.new-system.ensures.device (device_of c.args.store) (λ held is. ap device_of is)
