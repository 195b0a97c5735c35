use Rattle.std.proofs.Common.{◌≡◌, ◌≢◌, ap, ◌∙◌, arith}
use Rattle.std.specs.Prelude.{pos, negsuc, ◌≤ℤ◌, ◌-ℤ◌, ◌*ℤ◌}
use Rattle.std.proofs.lemmas.Int.{ints, to_z-of_z}
use mir.Syntax.{w32, w64}
use mir.Val.{of_z, to_z}
use Rattle.cell_machine.specs.Cells.{cell, floored}
use Rattle.cell_machine.proofs.Floors.{divided_some}
use Rattle.cell_machine.proofs.division.divide.Goals as goal

pub returns : goal.returns
returns c =
    let z : c.args.by ≢ pos 0 = λ h. c.if-by-eq0.false (ap (of_z w32) h) in
    let l : negsuc 32767 ≤ℤ c.quotient-quot.result = omega (arith, ints) in
    let h : c.quotient-quot.result ≤ℤ pos 32767 = omega (arith, ints) in
    let f : to_z w64 (of_z w64 c.from.result) ≡ c.quotient-quot.result = omega (arith, ints, c.from.ensures) in
    let g : to_z w64 (of_z w64 c.rest-rem.result) ≡ c.rest-rem.result = omega (arith, ints, c.rest-rem.ensures) in
    let n : to_z w32 (of_z w32 c.args.n) ≡ c.args.n = to_z-of_z w32 c.args.n c.ranges.n in
    let b : to_z w32 (of_z w32 c.args.by) ≡ c.args.by = to_z-of_z w32 c.args.by c.ranges.by in
    let q : to_z w32 (of_z w32 c.quotient-quot.result) ≡ c.quotient-quot.result = omega (arith, ints) in
    let e : c.quotient-quot.result ≡ floored c.args.n c.args.by = c.quotient-quot.ensures.value ∙ ap (λ x. floored x (to_z w32 (of_z w32 c.args.by))) n ∙ ap (λ x. floored c.args.n x) b in
    let r : c.rest-rem.result ≡ c.args.n -ℤ (c.quotient-quot.result *ℤ c.args.by) =
    c.rest-rem.ensures ∙ ap (λ x. x -ℤ (to_z w32 (of_z w32 c.quotient-quot.result) *ℤ to_z w32 (of_z w32 c.args.by))) n
    ∙ ap (λ x. c.args.n -ℤ (x *ℤ to_z w32 (of_z w32 c.args.by))) q ∙ ap (λ x. c.args.n -ℤ (c.quotient-quot.result *ℤ x)) b
    in
    divided_some c.args.n c.args.by c.quotient-quot.result c.rest-rem.result c.low_cell.result c.low_cell-2.result z l h e r (c.low_cell.ensures ∙ ap cell f) (c.low_cell-2.ensures ∙ ap cell g)
