use Rattle.std.proofs.Common.{◌≡◌, List, ℕ, ◌++◌, ◌∙◌, take, drop, length, sym, ap}
use Rattle.std.proofs.Math.Seq.{take-append_seam, drop-append_seam}
use Rattle.journal.proofs.pages.layout.with_sum.Goals as goal

-- the first 480 bytes, whatever follows
front_of : (front back : List ℕ) → length front ≡ 480 → take 480 (front ++ back) ≡ front
front_of front back long = ap (λ k. take k (front ++ back)) (sym long) ∙ take-append_seam front back

pub returns-clause-bits : goal.returns-clause-bits
returns-clause-bits c =
    let split = c.split_at_mut-end.ensures in
    let front = c.split_at_mut-end.result.0.now in
    front_of front c.copy_from_slice.new.self split.front_len
    ∙ sym (front_of front c.split_at_mut-end.result.1.now split.front_len) ∙ ap (take 480) (sym split.value)

pub returns-clause-sum : goal.returns-clause-sum
returns-clause-sum c =
    let front = c.split_at_mut-end.result.0.now in
    let end = c.copy_from_slice.new.self in
    ap (λ k. drop k (front ++ end)) (sym c.split_at_mut-end.ensures.front_len) ∙ drop-append_seam front end ∙ c.copy_from_slice.ensures.after
