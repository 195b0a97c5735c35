use Rattle.std.proofs.Common.{◌≡◌, ◌≤◌, ◌-◌, ◌∷◌, sym, ap, ◌∙◌, length, ℕ, List, slice_index, arith}
use Rattle.stacks.proofs.Places.{length-stack_in, stack_in-none, popped}
use Rattle.stacks.specs.Places.{stack_in}
use Rattle.stacks.proofs.data_stack.DataStack.pop.Goals as goal

pub returns-then-depth-eq0-clause-empty : goal.returns-then-depth-eq0-clause-empty
returns-then-depth-eq0-clause-empty c =
    sym c.self.view_is ∙ ap (λ d. stack_in c.self.inside.places.items d) c.if-depth-eq0.true ∙ stack_in-none c.self.inside.places.items

bounded : (items old : List ℕ) (d : ℕ) → stack_in items d ≡ old → d ≤ 256 → length old ≤ 256
bounded items old d e h = omega (arith, length-stack_in items d, ap length e)

pub returns-then-depth-eq0-clause-bound : goal.returns-then-depth-eq0-clause-bound
returns-then-depth-eq0-clause-bound c = bounded c.self.inside.places.items c.args.self.now c.self.inside.depth c.self.view_is c.self.invariant.1

pub returns-clause-ok : goal.returns-clause-ok
returns-clause-ok c =
    sym c.self.view_is
    ∙ popped c.self.inside.places.items c.self.inside.depth (c.self.inside.depth - 1) (omega (arith, c.if-depth-eq0.false))
    ∙ ap (λ l. slice_index l c.self.inside.depth ∷ stack_in c.self.inside.places.items (c.self.inside.depth - 1)) (sym c.deref.ensures.0)

pub returns-clause-bound : goal.returns-clause-bound
returns-clause-bound c = bounded c.self.inside.places.items c.args.self.now c.self.inside.depth c.self.view_is c.self.invariant.1
