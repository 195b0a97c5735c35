use Rattle.std.proofs.Common.{◌≡◌, ◌<◌, ◌+◌, ◌∷◌, sym, ap, ◌∙◌, length, ℕ, List, slice_set, arith}
use Rattle.std.specs.List.{refill}
use Rattle.std.proofs.lemmas.List.{take_at, length-set}
use Rattle.stacks.proofs.Places.{length-stack_in, pushed}
use Rattle.stacks.specs.Places.{stack_in}
use Rattle.stacks.proofs.data_stack.DataStack.push.Goals as goal

pub returns-then-depth-eq-CAPACITY-clause-room : goal.returns-then-depth-eq-CAPACITY-clause-room
returns-then-depth-eq-CAPACITY-clause-room c =
    let n : length c.args.self.now ≡ c.self.inside.depth = ap length (sym c.self.view_is) ∙ length-stack_in c.self.inside.places.items c.self.inside.depth in
    (λ e. absurd (cc), λ h. absurd (omega (arith, c.if-depth-eq-CAPACITY.true)))

pub returns-clause-room : goal.returns-clause-room
returns-clause-room c =
    let n : length c.args.self.now ≡ c.self.inside.depth = ap length (sym c.self.view_is) ∙ length-stack_in c.self.inside.places.items c.self.inside.depth in
    (λ e. omega (arith, c.self.invariant.1), λ h. cc)

-- a store at the place above the top
stored : (items now old : List ℕ) (d len cell : ℕ) → now ≡ items → len ≡ length items → d + 1 < len → stack_in items d ≡ old
    → stack_in (refill len items (slice_set now (d + 1) cell)) (d + 1) ≡ cell ∷ old
stored items now old d len cell e n h v =
    let m : length (slice_set now (d + 1) cell) ≡ len = length-set now (d + 1) cell ∙ ap length e ∙ sym n in
    ap (λ l. stack_in l (d + 1)) (take_at (slice_set now (d + 1) cell) _ len m)
    ∙ ap (λ l. stack_in (slice_set l (d + 1) cell) (d + 1)) e
    ∙ pushed items d (d + 1) cell (omega arith) (omega arith)
    ∙ ap (λ l. cell ∷ l) v

pub returns-clause-ok : goal.returns-clause-ok
returns-clause-ok c =
    stored c.self.inside.places.items c.deref_mut.result.now c.args.self.now c.self.inside.depth _ c.args.cell c.deref_mut.ensures.value (λ i. length c.self.inside.places.items) (omega (arith, c.self.invariant.0, c.self.invariant.1, c.if-depth-eq-CAPACITY.false)) c.self.view_is
