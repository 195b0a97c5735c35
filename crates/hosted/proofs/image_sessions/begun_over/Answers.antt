use Rattle.std.proofs.Common.{◌∙◌, ◌∷◌, ◌++◌, [], IsTrue, ap, subst, sym, is_ok}
use Rattle.std.specs.Prelude.{if◌then◌else◌}
use Rattle.journal.specs.Store.{StandsFor, device_of}
use Rattle.journal.specs.Suits.{suits}
use Rattle.stores.proofs.OwnMaps.{own_maps, stands_for_own}
use Rattle.hosted.proofs.image_sessions.begun_over.Goals as goal

pub returns-clause-ok : goal.returns-clause-ok
returns-clause-ok g c =
    let D = g.met.D.SectorDevice in
    let new = c.new-2.result in
    let room = c.in-Ok-with_capacity.room.items in
    record {
      system = new;
      alone = c.push.ensures.items ∙ ap (λ r. if is_ok r then room ++ new ∷ [] else room) c.unwrap.ensures ∙ ap (λ l. l ++ new ∷ []) c.in-Ok-with_capacity.ensures.items;
      is_sound = c.new-2.ensures.sound (own_maps c.args.store) (λ held is keeps.
          subst (λ s. StandsFor s (own_maps c.args.store)) (sym is)
          (stands_for_own D.present D.keeps_both c.args.store (subst (λ s. IsTrue (suits g.D.SectorDevice (device_of s))) is keeps)));
      begins = λ m stands. c.new-2.ensures.opens m (λ held is. subst (λ s. StandsFor s m) (sym is) stands);
      device = c.new-2.ensures.device (device_of c.args.store) (λ held is. ap device_of is);
    }
