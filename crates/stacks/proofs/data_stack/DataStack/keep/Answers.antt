use Rattle.std.proofs.Common.{◌≡◌, sym, ap, ◌∙◌, length, drop, ◌-◌, min, ℕ, List, arith}
use Rattle.std.specs.List.{refill}
use Rattle.std.proofs.lemmas.List.{take_at}
use Rattle.stacks.proofs.Places.{length-stack_in, lowest}
use Rattle.stacks.specs.Places.{stack_in}
use Rattle.stacks.proofs.data_stack.DataStack.keep.Goals as goal

-- the lowest cells of the stack, whichever places it lies in
kept : (items old : List ℕ) (m d k : ℕ) → stack_in items m ≡ old → k ≡ min m d → stack_in items k ≡ drop (length old - d) old
kept items old m d k e h =
    let n : m ≡ length old = sym (length-stack_in items m) ∙ ap length e in
    let j : m - k ≡ length old - d = omega arith in
    sym (lowest items m k (omega arith)) ∙ ap (λ i. drop i (stack_in items m)) j ∙ ap (λ l. drop (length old - d) l) e

pub returns-clause-after : goal.returns-clause-after
returns-clause-after c = kept c.self.inside.places.items c.args.self.now c.self.inside.depth c.args.depth c.min-self-inside.result c.self.view_is c.min-self-inside.ensures

pub returns-clause-lent : goal.returns-clause-lent
returns-clause-lent c = λ lent left n e h.
    let same : refill 257 lent left ≡ left = take_at left _ 257 n in
    let is : stack_in left 256 ≡ c.args.self.now = ap (λ l. stack_in l 256) (sym same) ∙ sym e in
    returns-clause-after c ∙ sym (kept left c.args.self.now 256 c.args.depth c.args.depth is (omega arith))
