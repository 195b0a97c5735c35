use Rattle.std.proofs.Common.{◌≡◌, refl, sym, ap, ◌∙◌, length, ℕ, List}
use Rattle.std.specs.List.{refill}
use Rattle.stacks.proofs.Places.{length-stack_in}
use Rattle.stacks.specs.Places.{stack_in}
use Rattle.stacks.proofs.data_stack.DataStack.lend.Goals as goal

pub returns : goal.returns
returns c =
    let items : List ℕ = c.self.inside.places.items in
    let n : length items ≡ 257 = c.self.invariant.0 in
    let m : length c.args.self.now ≡ c.self.inside.depth = ap length (sym c.self.view_is) ∙ length-stack_in items c.self.inside.depth in (
      (refl, λ w. ap (λ k. stack_in (refill k items w) 256) n ∙ ap (λ l. stack_in (refill 257 l w) 256) (sym c.as_mut_slice.ensures.value)),
      record {
        lends = tt;
        value = ap (λ l. stack_in l (length c.args.self.now)) c.as_mut_slice.ensures.value ∙ ap (λ k. stack_in items k) m ∙ c.self.view_is;
        len = ap length c.as_mut_slice.ensures.value ∙ n;
      },
    )
