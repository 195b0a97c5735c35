use Rattle.std.proofs.Common.{◌≡◌, ◌<◌, ◌+◌, ◌-◌, sym, ap, ◌∙◌, length, take, drop, subst, ℕ, List, arith}
use Rattle.std.specs.List.{refill, RotatedLeft}
use Rattle.std.proofs.lemmas.List.{take_at, length-take-le, length-drop}
use Rattle.stacks.proofs.Places.{length-stack_in, roll, rotated, IsRotated}
use Rattle.stacks.specs.Stacks.{rolled}
use Rattle.stacks.specs.Places.{stack_in}
use borrow.Rule.Slice.PartMut.{put_mid, same_len_mid}
use Rattle.stacks.proofs.data_stack.DataStack.roll.Goals as goal

pub returns-then-u-depth-clause-room : goal.returns-then-u-depth-clause-room
returns-then-u-depth-clause-room c =
    let n : length c.args.self.now ≡ c.self.inside.depth = ap length (sym c.self.view_is) ∙ length-stack_in c.self.inside.places.items c.self.inside.depth in
    (λ e. absurd (cc), λ h. absurd (omega (arith, c.if-u-depth.true)))

pub returns-clause-room : goal.returns-clause-room
returns-clause-room c =
    let n : length c.args.self.now ≡ c.self.inside.depth = ap length (sym c.self.view_is) ∙ length-stack_in c.self.inside.places.items c.self.inside.depth in
    (λ e. omega (arith, c.if-u-depth.false), λ h. cc)

-- the cells from u below the top on, rotated by one
turned : (items now ys old : List ℕ) (d u a k len : ℕ) → now ≡ items → len ≡ length items → d < len → u < d → a + u ≡ d → k + a ≡ d + 1
    → stack_in items d ≡ old → length ys ≡ length (take k (drop a now)) → RotatedLeft (take k (drop a now)) ys (length (take k (drop a now))) 1
    → stack_in (refill len items (put_mid a k now ys)) d ≡ rolled u old
turned items now ys old d u a k len e n f h b w v m r =
    let rest : length (drop a now) ≡ length now - a = length-drop a now in
    let same_length : length now ≡ len = ap length e ∙ sym n in
    let part : length (take k (drop a now)) ≡ k = length-take-le k (drop a now) (omega arith) in
    let whole : refill len items (put_mid a k now ys) ≡ put_mid a k now ys =
    take_at (put_mid a k now ys) _ len (same_len_mid a k now ys m ∙ same_length) in
    let is : IsRotated now (put_mid a k now ys) a d =
    rotated now ys a d k w (omega arith) (omega arith) (m ∙ part) (subst (λ j. RotatedLeft (take k (drop a now)) ys j 1) part r) in
    ap (λ l. stack_in l d) whole
    ∙ roll now (put_mid a k now ys) d u a h b is
    ∙ ap (λ l. rolled u (stack_in l d)) e
    ∙ ap (λ l. rolled u l) v

pub returns-clause-ok : goal.returns-clause-ok
returns-clause-ok c =
    turned c.self.inside.places.items c.deref_mut.result.now c.rotate_left.new.self c.args.self.now c.self.inside.depth c.args.u _ _ _ c.deref_mut.ensures.value (λ i. length c.self.inside.places.items)
    (omega (arith, c.self.invariant.0, c.self.invariant.1))
    c.if-u-depth.false (omega (arith, c.if-u-depth.false)) (omega (arith, c.if-u-depth.false)) c.self.view_is c.rotate_left.ensures.len c.rotate_left.ensures.by_index
