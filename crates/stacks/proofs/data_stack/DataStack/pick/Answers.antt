use Rattle.std.proofs.Common.{◌≡◌, ◌-◌, sym, ap, ◌∙◌, length, slice_index, arith}
use Rattle.stacks.proofs.Places.{length-stack_in, picked}
use Rattle.stacks.proofs.data_stack.DataStack.pick.Goals as goal

pub returns-then-u-depth-clause-room : goal.returns-then-u-depth-clause-room
returns-then-u-depth-clause-room c =
    let n : length c.args.self.now ≡ c.self.inside.depth = ap length (sym c.self.view_is) ∙ length-stack_in c.self.inside.places.items c.self.inside.depth in
    (λ e. absurd (cc), λ h. absurd (omega (arith, c.if-u-depth.true)))

pub returns-clause-room : goal.returns-clause-room
returns-clause-room c =
    let n : length c.args.self.now ≡ c.self.inside.depth = ap length (sym c.self.view_is) ∙ length-stack_in c.self.inside.places.items c.self.inside.depth in
    (λ e. omega (arith, c.if-u-depth.false), λ h. cc)

pub returns-clause-ok : goal.returns-clause-ok
returns-clause-ok c =
    ap (λ l. slice_index l (c.self.inside.depth - c.args.u)) c.deref.ensures.0
    ∙ picked c.self.inside.places.items c.self.inside.depth c.args.u (c.self.inside.depth - c.args.u) (omega (arith, c.if-u-depth.false)) (omega (arith, c.if-u-depth.false))
    ∙ ap (λ l. slice_index l c.args.u) c.self.view_is
