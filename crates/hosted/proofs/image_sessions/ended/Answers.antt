use Rattle.std.proofs.Common.{◌∙◌, ◌++◌, ap, subst, sym}
use Rattle.std.specs.Prelude.{option_to_list}
use Rattle.hosted.proofs.Rooms.{only}
use Rattle.hosted.proofs.image_sessions.ended.Goals as goal

pub returns : goal.returns
returns g c = record {
  ends = λ system is.
      let same = only c.unwrap.result system c.pop.new.self.items c.args.room.items (c.pop.ensures.items ∙ ap (λ r. c.pop.new.self.items ++ option_to_list r) c.unwrap.ensures) is in
      record {
        store = c.into_store.result;
        left = c.into_device.ensures.device;
        same = c.into_store.ensures.device ∙ ap g.F.Lines.device same;
        means = λ state stands. c.into_store.ensures.maps state (subst (λ f. g.F.Lines.stands f state) (sym same) stands);
      };
}
