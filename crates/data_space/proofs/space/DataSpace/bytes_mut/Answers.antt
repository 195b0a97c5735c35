use Rattle.std.proofs.Common.{◌≡◌, refl, ap, ◌∙◌, arith}
use Rattle.std.specs.List.{refill}
use Rattle.data_space.proofs.space.DataSpace.bytes_mut.Goals as goal

pub returns : goal.returns
returns c =
    let len : c.self.inside.bytes.len ≡ 65536 = c.self.invariant in (
      (refl, λ w. ap (λ k. refill k c.self.inside.bytes.items w) len ∙ ap (λ l. refill 65536 l w) c.self.view_is),
      record {
        lends = tt;
        value = c.as_mut_slice.ensures.value ∙ c.self.view_is;
        len = omega (arith, c.as_mut_slice.ensures.len);
      },
    )
