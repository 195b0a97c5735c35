use Rattle.std.proofs.Common.{◌≡◌, ◌∙◌, ◌∷◌, ◌-◌, ◌<◌, List, ℕ, suc, refl, sym, ap, subst, length, slice_get, arith}
use Rattle.stacks.proofs.Entries.{Lies, lies, taken, empty, fits, has_top}
use Rattle.stacks.specs.declared.return_stack.Entry.{Entry}
use Rattle.stacks.specs.Stacks.{entry_units}
use Rattle.stacks.specs.Entries.{entry_at, entries_in}
use Rattle.stacks.proofs.return_stack.ReturnStack.second.Goals as goal

pub returns-then-self-eq0-clause-two : goal.returns-then-self-eq0-clause-two
returns-then-self-eq0-clause-two c =
    let n : length c.args.self.now ≡ 0 = ap length (empty c.self.inside.places c.self.inside.units c.args.self.now (lies c.self.view_is c.self.invariant) c.if-self-eq0.true) in (λ e. absurd (cc), λ h. absurd (omega arith))

pub overflow_sub-below : goal.overflow_sub-below
overflow_sub-below c = omega (arith, fits c.self.inside.places c.self.inside.units c.args.self.now (lies c.self.view_is c.self.invariant) c.if-self-eq0.false, c.units.ensures)

-- what lies below the top
below : (p es : List Entry) (u k b : ℕ) → Lies p u es → (u ≡ 0 → ⊥) → k ≡ entry_units (entry_at p u) → b ≡ u - k → Lies p b (entries_in 256 p b) × (es ≡ entry_at p u ∷ entries_in 256 p b)
below p es u k b h n e f =
    let s : u - entry_units (entry_at p u) ≡ b = omega (arith, e, f) in
    (subst (λ b. Lies p b (entries_in 256 p b)) s (taken p u es h n), has_top p u es h n ∙ ap (λ b. entry_at p u ∷ entries_in 256 p b) s)

pub returns-then-below-eq0-clause-two : goal.returns-then-below-eq0-clause-two
returns-then-below-eq0-clause-two c =
    let x = below c.self.inside.places c.args.self.now c.self.inside.units c.units.result (c.self.inside.units - c.units.result) (lies c.self.view_is c.self.invariant) c.if-self-eq0.false c.units.ensures refl in
    let n : length c.args.self.now ≡ 1 = ap length x.1 ∙ ap (λ l. suc (length l)) (empty _ _ _ x.0 c.if-below-eq0.true) in (λ e. absurd (cc), λ h. absurd (omega arith))

pub returns-clause-two : goal.returns-clause-two
returns-clause-two c =
    let x = below c.self.inside.places c.args.self.now c.self.inside.units c.units.result (c.self.inside.units - c.units.result) (lies c.self.view_is c.self.invariant) c.if-self-eq0.false c.units.ensures refl in
    let y = has_top _ _ _ x.0 c.if-below-eq0.false in
    let n : 1 < length c.args.self.now = omega (arith, ap length x.1, ap length y) in (λ e. n, λ h. refl)

pub returns-clause-ok : goal.returns-clause-ok
returns-clause-ok c =
    let x = below c.self.inside.places c.args.self.now c.self.inside.units c.units.result (c.self.inside.units - c.units.result) (lies c.self.view_is c.self.invariant) c.if-self-eq0.false c.units.ensures refl in
    let y = has_top _ _ _ x.0 c.if-below-eq0.false in
    sym (ap (λ l. slice_get l 1) x.1 ∙ ap (λ l. slice_get l 0) y)
