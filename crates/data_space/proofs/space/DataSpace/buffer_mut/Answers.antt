use Rattle.std.proofs.Common.{◌≡◌, refl, ap, ◌∙◌, length, arith}
use Rattle.data_space.proofs.Ranges.{buffer, lent}
use Rattle.data_space.proofs.space.DataSpace.buffer_mut.Goals as goal

pub returns : goal.returns
returns c =
    let len : c.self.inside.bytes.len ≡ length c.args.self.now = c.self.inside.bytes.ok.0 ∙ ap length c.self.view_is in (
      (refl, λ w. lent c.self.inside.bytes.items c.args.self.now c.self.inside.bytes.len c.buffer_start-start.result c.args.slot w c.self.view_is len c.buffer_start-start.ensures),
      record {
        lends = tt;
        value = c.slice_mut.ensures.value ∙ buffer c.self.inside.bytes.items c.args.self.now c.buffer_start-start.result c.args.slot c.self.view_is c.buffer_start-start.ensures;
        len = c.slice_mut.ensures.len ∙ omega arith;
        size = omega (arith, c.self.invariant);
      },
    )
