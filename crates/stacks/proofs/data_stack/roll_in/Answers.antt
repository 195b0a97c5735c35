use Rattle.std.proofs.Common.{◌≡◌, ◌<◌, ◌≤◌, ◌+◌, ◌-◌, ◌∙◌, length, take, drop, subst, ℕ, List, arith}
use Rattle.std.specs.List.{RotatedLeft}
use Rattle.std.proofs.lemmas.List.{length-take-le, length-drop}
use Rattle.stacks.proofs.Places.{roll, rotated, IsRotated}
use Rattle.stacks.specs.Stacks.{stack_in, rolled}
use borrow.Rule.Slice.PartMut.{put_mid}
use Rattle.stacks.proofs.data_stack.roll_in.Goals as goal

-- the cells from u below the top on, rotated by one
turned : (now ys : List ℕ) (d u a k : ℕ) → d < length now → u < d → a + u ≡ d → k + a ≡ d + 1
    → length ys ≡ length (take k (drop a now)) → RotatedLeft (take k (drop a now)) ys (length (take k (drop a now))) 1
    → stack_in (put_mid a k now ys) d ≡ rolled u (stack_in now d)
turned now ys d u a k f h b w m r =
    let rest : length (drop a now) ≡ length now - a = length-drop a now in
    let part : length (take k (drop a now)) ≡ k = length-take-le k (drop a now) (omega arith) in
    roll now (put_mid a k now ys) d u a h b
    (rotated now ys a d k w (omega arith) (omega arith) (m ∙ part) (subst (λ j. RotatedLeft (take k (drop a now)) ys j 1) part r))

pub returns : goal.returns
returns c =
    turned c.args.places.now c.rotate_left.new.self c.args.depth c.args.u _ _ c.requires.within c.requires.there
    (omega (arith, c.requires.there)) (omega (arith, c.requires.there)) c.rotate_left.ensures.len c.rotate_left.ensures.by_index
