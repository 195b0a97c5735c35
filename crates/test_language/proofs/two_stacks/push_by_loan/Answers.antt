use Rattle.std.proofs.Common.{◌≡◌, ◌+◌, ◌∷◌, refl, ap, ◌∙◌, length, slice_set, ℕ, List, arith}
use Rattle.std.proofs.lemmas.List.{length-set}
use Rattle.stacks.specs.Places.{stack_in}
use Rattle.test_language.proofs.two_stacks.push_by_loan.Goals as goal

pub returns : goal.returns
returns c =
    let places : List ℕ = c.lend-places.result.now in
    let depth : ℕ = c.depth-depth.result in
    let same : length (slice_set places (depth + 1) c.args.cell) ≡ 257 = length-set places (depth + 1) c.args.cell ∙ c.lend-places.ensures.len in
    c.keep.ensures.lent places (slice_set places (depth + 1) c.args.cell) same refl (omega (arith, c.depth-depth.ensures.value, c.requires))
    ∙ c.lent_places.ensures.pushed places depth c.args.cell (omega (arith, c.depth-depth.ensures.value, c.requires, c.lend-places.ensures.len))
    ∙ ap (λ d. c.args.cell ∷ stack_in places d) c.depth-depth.ensures.value
    ∙ ap (λ l. c.args.cell ∷ l) c.lend-places.ensures.value
