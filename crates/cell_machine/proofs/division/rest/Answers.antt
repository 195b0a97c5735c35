use Rattle.std.proofs.Common.{◌≡◌, arith}
use Rattle.std.proofs.lemmas.Int.{ints}
use mir.Syntax.{w64}
use mir.Val.{of_z, to_z}
use Rattle.cell_machine.proofs.Floors.{difference, difference_within}
use Rattle.cell_machine.proofs.division.rest.Goals as goal

pub overflow_sub-result : goal.overflow_sub-result
overflow_sub-result c =
    let a : to_z w64 (of_z w64 c.from.result) ≡ c.args.n = omega (arith, ints, c.from.ensures) in
    let b : to_z w64 (of_z w64 c.from-2.result) ≡ c.args.quot = omega (arith, ints, c.from-2.ensures) in
    let d : to_z w64 (of_z w64 c.from-3.result) ≡ c.args.by = omega (arith, ints, c.from-3.ensures) in
    rw (a, b, d) (difference_within c.args.n c.args.quot c.args.by c.ranges.n c.requires.small c.requires.by_small)

pub returns : goal.returns
returns c =
    let a : to_z w64 (of_z w64 c.from.result) ≡ c.args.n = omega (arith, ints, c.from.ensures) in
    let b : to_z w64 (of_z w64 c.from-2.result) ≡ c.args.quot = omega (arith, ints, c.from-2.ensures) in
    let d : to_z w64 (of_z w64 c.from-3.result) ≡ c.args.by = omega (arith, ints, c.from-3.ensures) in
    rw (a, b, d) (difference c.args.n c.args.quot c.args.by c.ranges.n c.requires.small c.requires.by_small)
